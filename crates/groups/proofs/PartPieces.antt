-- The parts of an entry are valid pieces.
use Rattle.std.proofs.Common.{◌≡◌, ◌≢◌, ℕ, ◌+◌, ◌-◌, ◌<◌, ◌≤◌, Bool, true, false, [], refl, arith, All}
use Rattle.std.specs.Prelude.{nat_lt}
use Rattle.std.proofs.lemmas.Bool.Decides.{nat_tests}
use Rattle.std.proofs.lemmas.List.Elements.{All-append, All-cons, All-nil}
use Rattle.sampletime.specs.TimeCode.{day}
use Rattle.sound_terms.specs.declared.Event.{Event}
use Rattle.sound_terms.specs.declared.BoundIndex.{BoundIndex}
use Rattle.sound_terms.specs.declared.piece.Shape.{Shape}
use Rattle.sound_terms.specs.declared.piece.Shape.TheVariants.{Flat, Rise, Fall}
use Rattle.sound_terms.specs.Groups.{IsGroup, IsPiece, IsRamp}
use Rattle.sound_terms.specs.Entries.{IsPlayable, parts_of, stretch_of}

-- a stretch within the event is a valid piece
stretch_is_piece : (index : BoundIndex) (event : Event) (i n : ℕ) (shape : Shape) → IsPlayable index event
    → i + n ≤ event.dest_out - event.dest_in → IsRamp shape n → All IsPiece (stretch_of index event i n shape)
stretch_is_piece index event i n shape playable inside ramp = by_length (nat_lt 0 n) refl where
  by_length : (b : Bool) → nat_lt 0 n ≡ b → All IsPiece (stretch_of index event i n shape)
  by_length true e =
      let some : 0 < n = grind (arith, nat_tests) in
      let fits : event.dest_in ≤ event.dest_out = playable.in_order in
      rw e (All-cons IsPiece _ [] (record {
        wide = omega (arith, playable.some);
        source_from_one = playable.source_from_one;
        source_to_64 = omega (arith, playable.some, playable.source_to_64);
        dest_from_one = playable.dest_from_one;
        dest_to_64 = omega (arith, playable.some, playable.dest_to_64);
        some = some;
        in_day = omega (arith, playable.in_day);
        source_in_day = omega (arith, playable.source_in_day);
        ramp = ramp;
      }) (All-nil IsPiece))
  by_length false e = rw e (All-nil IsPiece)

pub parts_are_pieces : (index : BoundIndex) (event : Event) → IsPlayable index event
    → All IsPiece (parts_of index event)
parts_are_pieces index event playable =
    let rise : ℕ = event.rise.length in
    let fall : ℕ = event.fall.length in
    let whole : ℕ = event.dest_out - event.dest_in in
    let fades : rise + fall ≤ whole = playable.fades in
    let in_day : event.dest_out ≤ day = playable.in_day in
    All-append IsPiece _ _ (stretch_is_piece index event 0 rise (Rise 0 rise) playable (omega arith)
    (omega arith, omega arith))
    (All-append IsPiece _ _ (stretch_is_piece index event rise ((whole - fall) - rise) Flat playable (omega arith) tt)
    (stretch_is_piece index event (whole - fall) fall (Fall 0 fall) playable (omega arith) (omega arith, omega arith)))

-- the parts are contiguous
pub parts_are_group : (index : BoundIndex) (event : Event) → IsPlayable index event → parts_of index event ≢ []
    → IsGroup (parts_of index event)
parts_are_group index event playable some =
    by_parts (nat_lt 0 rise) (nat_lt 0 ((whole - fall) - rise)) (nat_lt 0 fall) refl refl refl some where
      rise : ℕ
      rise = event.rise.length

      fall : ℕ
      fall = event.fall.length

      whole : ℕ
      whole = event.dest_out - event.dest_in

      by_parts : (a b c : Bool) → nat_lt 0 rise ≡ a → nat_lt 0 ((whole - fall) - rise) ≡ b → nat_lt 0 fall ≡ c
          → parts_of index event ≢ [] → IsGroup (parts_of index event)
      by_parts true true true e f g some =
          rw (e, f, g) (grind (arith, nat_tests), (grind (arith, nat_tests), tt))
      by_parts true true false e f g some = rw (e, f, g) (grind (arith, nat_tests), tt)
      by_parts true false true e f g some =
          let fades : rise + fall ≤ whole = playable.fades in
          let flat : (whole - fall) - rise ≡ 0 = grind (arith, nat_tests) in
          let meets : whole - fall ≡ rise = omega arith in
          rw (e, f, g) (grind (arith, nat_tests, meets), tt)
      by_parts false true true e f g some =
          let none : rise ≡ 0 = grind (arith, nat_tests) in
          rw (e, f, g) (grind (arith, nat_tests, none), tt)
      by_parts true false false e f g some = rw (e, f, g) tt
      by_parts false true false e f g some = rw (e, f, g) tt
      by_parts false false true e f g some = rw (e, f, g) tt
      by_parts false false false e f g some = absurd (some (rw (e, f, g) refl))
