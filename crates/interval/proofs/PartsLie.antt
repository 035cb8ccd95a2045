-- The pieces of an entry: their positions in the file, and the number of pieces at a time.
use Rattle.std.proofs.Common.{◌≡◌, ◌∙◌, ℕ, ◌+◌, ◌-◌, ◌<◌, ◌≤◌, Bool, true, false, List, [], ◌∷◌, ◌++◌, All, Some, refl, arith, ap}
use Rattle.std.specs.Prelude.{nat_lt}
use Rattle.std.specs.List.{slice_get}
use Rattle.std.proofs.lemmas.Bool.Decides.{nat_tests}
use Rattle.std.proofs.lemmas.List.Elements.{All-append, All-cons, All-nil}
use Rattle.sound_terms.specs.declared.Event.{Event}
use Rattle.sound_terms.specs.declared.BoundIndex.{BoundIndex}
use Rattle.sound_terms.specs.declared.piece.Home.{Home}
use Rattle.sound_terms.specs.declared.piece.Piece.{Piece}
use Rattle.sound_terms.specs.declared.piece.Shape.{Shape}
use Rattle.sound_terms.specs.declared.piece.Shape.TheVariants.{Flat, Rise, Fall}
use Rattle.sound_terms.specs.Sounds.{SoundFacts}
use Rattle.sound_terms.specs.Homes.{addressable_by}
use Rattle.sound_terms.specs.Groups.{holding}
use Rattle.sound_terms.specs.Entries.{parts_of, stretch_of}
use Rattle.interval.specs.AtHome.{IsAtHome}
use Rattle.interval.proofs.Playable.{HasNumbers, Plays}

-- A part of the event.
stretch_lies : (sounds : List SoundFacts) (homes : List Home) (index : BoundIndex) (facts : SoundFacts) (event : Event)
    (i n : ℕ) (shape : Shape)
    → Plays index facts event → HasNumbers event → slice_get sounds index.file ≡ Some facts
    → index.addressable ≤ facts.frames → index.addressable ≤ addressable_by homes index.file
    → i + n ≤ event.dest_out - event.dest_in → All (IsAtHome sounds homes) (stretch_of index event i n shape)
stretch_lies sounds homes index facts event i n shape plays has there frames home inside =
    by_length (nat_lt 0 n) refl where
      by_length : (b : Bool) → nat_lt 0 n ≡ b → All (IsAtHome sounds homes) (stretch_of index event i n shape)
      by_length true e =
          let some : 0 < n = grind (arith, nat_tests, e) in
          let within = plays.frames (omega (arith, some, inside)) in
          rw e (All-cons (IsAtHome sounds homes) _ [] (record {
            of_file = record {
              facts = facts;
              there = there;
              channels = omega (arith, has.widths, has.dest_order, has.source_order, plays.channels);
              frames = omega (arith, within, inside, frames);
            };
            at_home = omega (arith, within, inside, home);
          }) (All-nil (IsAtHome sounds homes)))
      by_length false e = rw e (All-nil (IsAtHome sounds homes))

pub parts_lie : (sounds : List SoundFacts) (homes : List Home) (index : BoundIndex) (facts : SoundFacts) (event : Event)
    → Plays index facts event → HasNumbers event → slice_get sounds index.file ≡ Some facts
    → index.addressable ≤ facts.frames → index.addressable ≤ addressable_by homes index.file
    → All (IsAtHome sounds homes) (parts_of index event)
parts_lie sounds homes index facts event plays has there frames home =
    let rise : ℕ = event.rise.length in
    let fall : ℕ = event.fall.length in
    let whole : ℕ = event.dest_out - event.dest_in in
    let fades : rise + fall ≤ whole = plays.fades in
    All-append (IsAtHome sounds homes) _ _ (stretch_lies sounds homes index facts event 0 rise (Rise 0 rise)
    plays has there frames home (omega (arith, fades)))
    (All-append (IsAtHome sounds homes) _ _ (stretch_lies sounds homes index facts event rise ((whole - fall) - rise)
    Flat plays has there frames home (omega (arith, fades)))
    (stretch_lies sounds homes index facts event (whole - fall) fall (Fall 0 fall) plays has there frames home
    (omega (arith, fades))))

pub holding-append : (time : ℕ) (a b : List Piece) → holding time (a ++ b) ≡ holding time a + holding time b
holding-append time [] b = omega arith
holding-append time (p ∷ ps) b = let rest = holding-append time ps b in omega (arith, rest)

-- A part covers a time at most once, and only times within it.
stretch_holds : (index : BoundIndex) (event : Event) (time i n : ℕ) (shape : Shape)
    → holding time (stretch_of index event i n shape) ≤ 1
stretch_holds index event time i n shape = grind (arith, nat_tests)

not_before : (index : BoundIndex) (event : Event) (time i n : ℕ) (shape : Shape) → time < event.dest_in + i
    → holding time (stretch_of index event i n shape) ≡ 0
not_before index event time i n shape early = grind (arith, nat_tests, early)

not_behind : (index : BoundIndex) (event : Event) (time i n : ℕ) (shape : Shape) → event.dest_in + i + n ≤ time
    → holding time (stretch_of index event i n shape) ≡ 0
not_behind index event time i n shape late = grind (arith, nat_tests, late)

-- The parts follow one another.
module _ (index : BoundIndex) (event : Event) (time : ℕ) where
  abbrev rise : ℕ
  rise = event.rise.length

  abbrev fall : ℕ
  fall = event.fall.length

  abbrev whole : ℕ
  whole = event.dest_out - event.dest_in

  parts_hold : holding time (parts_of index event)
      ≡ holding time (stretch_of index event 0 rise (Rise 0 rise))
      + (holding time (stretch_of index event rise ((whole - fall) - rise) Flat) + holding time
      (stretch_of index event (whole - fall) fall (Fall 0 fall)))
  parts_hold =
      holding-append time (stretch_of index event 0 rise (Rise 0 rise))
      (stretch_of index event rise ((whole - fall) - rise) Flat
      ++ stretch_of index event (whole - fall) fall (Fall 0 fall))
      ∙ ap (λ n. holding time (stretch_of index event 0 rise (Rise 0 rise)) + n)
      (holding-append time (stretch_of index event rise ((whole - fall) - rise) Flat)
      (stretch_of index event (whole - fall) fall (Fall 0 fall)))

  pub parts_once : event.rise.length + event.fall.length ≤ event.dest_out - event.dest_in
      → holding time (parts_of index event) ≤ 1
  parts_once fades =
      by_time (nat_lt time (event.dest_in + rise)) refl (nat_lt time (event.dest_in + (whole - fall))) refl where
        by_time : (a : Bool) → nat_lt time (event.dest_in + rise) ≡ a → (b : Bool)
            → nat_lt time (event.dest_in + (whole - fall)) ≡ b
            → holding time (parts_of index event) ≤ 1
        by_time true e b f =
            let early : time < event.dest_in + rise = grind (arith, nat_tests, e) in
            let first = stretch_holds index event time 0 rise (Rise 0 rise) in
            let second = not_before index event time rise ((whole - fall) - rise) Flat early in
            let third = not_before index event time (whole - fall) fall (Fall 0 fall) (omega (arith, early, fades)) in
            omega (arith, parts_hold, first, second, third)
        by_time false e true f =
            let late : event.dest_in + rise ≤ time = grind (arith, nat_tests, e) in
            let early : time < event.dest_in + (whole - fall) = grind (arith, nat_tests, f) in
            let first = not_behind index event time 0 rise (Rise 0 rise) (omega (arith, late)) in
            let second = stretch_holds index event time rise ((whole - fall) - rise) Flat in
            let third = not_before index event time (whole - fall) fall (Fall 0 fall) early in
            omega (arith, parts_hold, first, second, third)
        by_time false e false f =
            let late : event.dest_in + (whole - fall) ≤ time = grind (arith, nat_tests, f) in
            let first = not_behind index event time 0 rise (Rise 0 rise) (omega (arith, late, fades)) in
            let second = not_behind index event time rise ((whole - fall) - rise) Flat (omega (arith, late, fades)) in
            let third = stretch_holds index event time (whole - fall) fall (Fall 0 fall) in
            omega (arith, parts_hold, first, second, third)
