-- The parts of an entry add the samples of the entry, and its fades are uncut.
use Rattle.std.proofs.Common.{◌≡◌, ◌⊎◌, inl, inr, ℕ, ◌+◌, ◌-◌, ◌<◌, ◌≤◌, Bool, true, false, ◌++◌, Some, IsTrue, refl, sym, arith}
use Rattle.std.specs.Prelude.{ℤ, pos, ◌+ℤ◌, ◌&&◌, if◌then◌else◌, nat_le, nat_lt}
use Rattle.std.specs.List.{list_all}
use Rattle.std.proofs.lemmas.Bool.Decides.{nat_tests}
use Rattle.std.proofs.lemmas.Bool.{cases_lt}
use Rattle.std.proofs.lemmas.Int.{ints}
use Rattle.std.proofs.lemmas.Bool.{eq-eqb}
use Rattle.std.proofs.lemmas.List.Folds.{list_all-append}
use Rattle.sound_terms.specs.declared.Event.{Event}
use Rattle.sound_terms.specs.declared.BoundIndex.{BoundIndex}
use Rattle.sound_terms.specs.declared.piece.Shape.{Shape}
use Rattle.sound_terms.specs.declared.piece.Shape.TheVariants.{Flat, Rise, Fall}
use Rattle.sound_terms.specs.Mix.{Reading, contribution_at, fade_fraction, share_of}
use Rattle.sound_terms.specs.Groups.{fraction_of, is_whole, is_whole_shape, sum_of}
use Rattle.sound_terms.specs.GroupLaws.{sum_of-append}
use Rattle.sound_terms.specs.Entries.{IsPlayable, parts_of, stretch_of}

alone : (w : ℤ) → pos 0 +ℤ (w +ℤ pos 0) ≡ w
alone w = omega (arith, ints)

-- three consecutive stretches that each add the samples of the whole add the whole
module _ (s n m k q out t : ℕ) (x y z w : ℤ) (middle : q ≡ n + m) (ends : out ≡ s + (n + m + k))
    (first : s ≤ t → t < s + n → x ≡ w) (second : s + n ≤ t → t < s + n + m → y ≡ w) (third : s + q ≤ t → z ≡ w) where
  abbrev AddsWhole : Type 0
  AddsWhole = (if nat_le (s + 0) t && nat_lt t (s + 0 + n) then x else pos 0)
      +ℤ ((if nat_le (s + n) t && nat_lt t (s + n + m) then y else pos 0)
      +ℤ (if nat_le (s + q) t && nat_lt t (s + q + k) then z else pos 0))
      ≡ (if nat_le s t && nat_lt t out then w else pos 0)

  by_end : s + q ≤ t → (t < s + q + k) ⊎ (s + q + k ≤ t) → AddsWhole
  by_end begun (inl before) =
      let a : nat_lt t (s + 0 + n) ≡ false = grind (arith, nat_tests) in
      let b : nat_lt t (s + n + m) ≡ false = grind (arith, nat_tests) in
      let c : nat_le (s + q) t ≡ true = grind (arith, nat_tests) in
      let d : nat_lt t (s + q + k) ≡ true = grind (arith, nat_tests) in
      let e : nat_le s t ≡ true = grind (arith, nat_tests) in
      let f : nat_lt t out ≡ true = grind (arith, nat_tests) in
      let g : nat_le (s + 0) t ≡ true = grind (arith, nat_tests) in
      let h : nat_le (s + n) t ≡ true = grind (arith, nat_tests) in
      rw (a, b, c, d, e, f, g, h, third begun) (omega (arith, ints))
  by_end begun (inr past) =
      let a : nat_lt t (s + 0 + n) ≡ false = grind (arith, nat_tests) in
      let b : nat_lt t (s + n + m) ≡ false = grind (arith, nat_tests) in
      let d : nat_lt t (s + q + k) ≡ false = grind (arith, nat_tests) in
      let f : nat_lt t out ≡ false = grind (arith, nat_tests) in
      let c : nat_le (s + q) t ≡ true = grind (arith, nat_tests) in
      let e : nat_le s t ≡ true = grind (arith, nat_tests) in
      let g : nat_le (s + 0) t ≡ true = grind (arith, nat_tests) in
      let h : nat_le (s + n) t ≡ true = grind (arith, nat_tests) in
      rw (a, b, d, f, c, e, g, h) refl

  by_middle : s + n ≤ t → (t < s + q) ⊎ (s + q ≤ t) → AddsWhole
  by_middle begun (inl before) =
      let a : nat_lt t (s + 0 + n) ≡ false = grind (arith, nat_tests) in
      let b : nat_lt t (s + n + m) ≡ true = grind (arith, nat_tests) in
      let c : nat_le (s + q) t ≡ false = grind (arith, nat_tests) in
      let e : nat_le s t ≡ true = grind (arith, nat_tests) in
      let f : nat_lt t out ≡ true = grind (arith, nat_tests) in
      let g : nat_le (s + 0) t ≡ true = grind (arith, nat_tests) in
      let h : nat_le (s + n) t ≡ true = grind (arith, nat_tests) in
      rw (a, b, c, e, f, g, h, second begun (omega arith)) (alone w)
  by_middle begun (inr past) = by_end past (cases_lt t (s + q + k))

  by_rise : s ≤ t → (t < s + n) ⊎ (s + n ≤ t) → AddsWhole
  by_rise begun (inl before) =
      let a : nat_lt t (s + 0 + n) ≡ true = grind (arith, nat_tests) in
      let h : nat_le (s + n) t ≡ false = grind (arith, nat_tests) in
      let c : nat_le (s + q) t ≡ false = grind (arith, nat_tests) in
      let e : nat_le s t ≡ true = grind (arith, nat_tests) in
      let f : nat_lt t out ≡ true = grind (arith, nat_tests) in
      let g : nat_le (s + 0) t ≡ true = grind (arith, nat_tests) in
      rw (a, h, c, e, f, g, first begun before) (omega (arith, ints))
  by_rise begun (inr past) = by_middle past (cases_lt t (s + q))

  by_start : (t < s) ⊎ (s ≤ t) → AddsWhole
  by_start (inl before) =
      let g : nat_le (s + 0) t ≡ false = grind (arith, nat_tests) in
      let h : nat_le (s + n) t ≡ false = grind (arith, nat_tests) in
      let c : nat_le (s + q) t ≡ false = grind (arith, nat_tests) in
      let e : nat_le s t ≡ false = grind (arith, nat_tests) in
      rw (g, h, c, e) refl
  by_start (inr begun) = by_rise begun (cases_lt t (s + n))

  three_parts : AddsWhole
  three_parts = by_start (cases_lt t s)

-- an empty stretch adds nothing
nothing_in : (a b : Bool) (s n t : ℕ) (x : ℤ) → nat_lt 0 n ≡ false
    → (if a && (b && (nat_le s t && nat_lt t (s + n))) then x else pos 0) ≡ pos 0
nothing_in false b s n t x none = refl
nothing_in true false s n t x none = refl
nothing_in true true s n t x none = by_start (cases_lt t s) where
  by_start : (t < s) ⊎ (s ≤ t) → (if nat_le s t && nat_lt t (s + n) then x else pos 0) ≡ pos 0
  by_start (inl before) = let e : nat_le s t ≡ false = grind (arith, nat_tests) in rw e refl
  by_start (inr begun) =
      let e : nat_lt t (s + n) ≡ false = grind (arith, nat_tests) in
      let f : nat_le s t ≡ true = grind (arith, nat_tests) in
      rw (e, f) refl

-- samples added by a stretch of an event, even if it is empty
module _ (r : Reading) (index : BoundIndex) (event : Event) (i n : ℕ) (shape : Shape) (channel time : ℕ) where
  abbrev added : ℤ
  added = if nat_le event.dest.first channel
      && (nat_lt channel (event.dest.first + ((event.dest.last + 1) - event.dest.first))
      && (nat_le (event.dest_in + i) time && nat_lt time (event.dest_in + i + n)))
      then share_of (r index.file (event.source.first + (channel - event.dest.first))
      ((event.source_in - index.base) + i + (time - (event.dest_in + i))))
      (fraction_of shape (time - (event.dest_in + i)))
      else pos 0

  by_length : (b : Bool) → nat_lt 0 n ≡ b → sum_of r (stretch_of index event i n shape) channel time ≡ added
  by_length true e = rw e (omega (arith, ints))
  by_length false e =
      rw e (sym (nothing_in (nat_le event.dest.first channel)
      (nat_lt channel (event.dest.first + ((event.dest.last + 1) - event.dest.first)))
      (event.dest_in + i) n time _ e))

  stretch_sum : sum_of r (stretch_of index event i n shape) channel time ≡ added
  stretch_sum = by_length (nat_lt 0 n) refl

-- sum of the parts on a destination channel of the event, and on any other channel
under_channel : (a b : Bool) (c1 c2 c3 c : Bool) (x y z w : ℤ)
    → (a ≡ true → b ≡ true → (if c1 then x else pos 0) +ℤ ((if c2 then y else pos 0) +ℤ (if c3 then z else pos 0))
    ≡ (if c then w else pos 0))
    → (if a && (b && c1) then x else pos 0)
    +ℤ ((if a && (b && c2) then y else pos 0) +ℤ (if a && (b && c3) then z else pos 0))
    ≡ (if a && (b && c) then w else pos 0)
under_channel false b c1 c2 c3 c x y z w same = refl
under_channel true false c1 c2 c3 c x y z w same = refl
under_channel true true c1 c2 c3 c x y z w same = same refl refl

module _ (r : Reading) (index : BoundIndex) (event : Event) (channel time : ℕ) where
  abbrev rise : ℕ
  rise = event.rise.length

  abbrev fall : ℕ
  fall = event.fall.length

  abbrev start : ℕ
  start = event.dest_in

  abbrev whole : ℕ
  whole = event.dest_out - event.dest_in

  abbrev last : ℕ
  last = whole - fall

  abbrev between : ℕ
  between = last - rise

  abbrev first_frame : ℕ
  first_frame = event.source_in - index.base

  abbrev source : ℕ
  source = event.source.first + (channel - event.dest.first)

  abbrev share : ℤ
  share = share_of (r index.file source (first_frame + (time - start))) (fade_fraction rise fall whole (time - start))

  channels : event.dest.first ≤ event.dest.last
      → nat_lt channel (event.dest.first + ((event.dest.last + 1) - event.dest.first)) ≡ nat_le channel event.dest.last
  channels some = grind (arith, nat_tests)

  in_fade : start ≤ time → time < start + rise
      → share_of (r index.file source (first_frame + 0 + (time - (start + 0))))
      (fraction_of (Rise 0 rise) (time - (start + 0))) ≡ share
  in_fade begun before =
      let fades : nat_lt (time - start) rise ≡ true = grind (arith, nat_tests) in
      let frames : first_frame + 0 + (time - (start + 0)) ≡ first_frame + (time - start) = omega arith in
      let samples : 0 + (time - (start + 0)) ≡ time - start = omega arith in
      rw (fades, frames, samples) refl

  in_middle : start + rise ≤ time → time < start + rise + between
      → share_of (r index.file source (first_frame + rise + (time - (start + rise))))
      (fraction_of Flat (time - (start + rise))) ≡ share
  in_middle begun before =
      let risen : nat_lt (time - start) rise ≡ false = grind (arith, nat_tests) in
      let holds : nat_le (whole - fall) (time - start) ≡ false = grind (arith, nat_tests) in
      let frames : first_frame + rise + (time - (start + rise)) ≡ first_frame + (time - start) = omega arith in
      rw (risen, holds, frames) refl

  in_out_fade : rise + fall ≤ whole → start + last ≤ time
      → share_of (r index.file source (first_frame + last + (time - (start + last))))
      (fraction_of (Fall 0 fall) (time - (start + last))) ≡ share
  in_out_fade fades begun =
      let risen : nat_lt (time - start) rise ≡ false = grind (arith, nat_tests) in
      let falls : nat_le (whole - fall) (time - start) ≡ true = grind (arith, nat_tests) in
      let frames : first_frame + last + (time - (start + last)) ≡ first_frame + (time - start) = omega arith in
      let samples : fall - (0 + (time - (start + last))) ≡ whole - (time - start) = omega arith in
      rw (risen, falls, frames, samples) refl

  pub parts_add : IsPlayable index event
      → sum_of r (parts_of index event) channel time ≡ contribution_at r (Some index) event channel time
  parts_add playable =
      let fades : rise + fall ≤ whole = playable.fades in
      let order : start ≤ event.dest_out = playable.in_order in
      let all = sum_of-append r (stretch_of index event 0 rise (Rise 0 rise))
      (stretch_of index event rise between Flat ++ stretch_of index event last fall (Fall 0 fall)) channel time in
      let behind =
      sum_of-append r (stretch_of index event rise between Flat) (stretch_of index event last fall (Fall 0 fall))
      channel time in
      let first = stretch_sum r index event 0 rise (Rise 0 rise) channel time in
      let second = stretch_sum r index event rise between Flat channel time in
      let third = stretch_sum r index event last fall (Fall 0 fall) channel time in
      rw (all, behind, first, second, third, channels playable.some)
      (under_channel (nat_le event.dest.first channel) (nat_le channel event.dest.last) _ _ _ _ _ _ _ _
      (λ a b. three_parts start rise between fall last event.dest_out time _ _ _ _ (omega arith) (omega arith)
      in_fade in_middle (in_out_fade fades)))

stretch_is_whole : (index : BoundIndex) (event : Event) (i n : ℕ) (shape : Shape) → IsTrue (is_whole_shape shape n)
    → list_all is_whole (stretch_of index event i n shape) ≡ true
stretch_is_whole index event i n shape whole = by_length (nat_lt 0 n) refl where
  by_length : (b : Bool) → nat_lt 0 n ≡ b → list_all is_whole (stretch_of index event i n shape) ≡ true
  by_length true e = rw (e, whole) refl
  by_length false e = rw e refl

pub parts_are_whole : (index : BoundIndex) (event : Event) → IsTrue (list_all is_whole (parts_of index event))
parts_are_whole index event =
    let rise : ℕ = event.rise.length in
    let fall : ℕ = event.fall.length in
    let whole : ℕ = event.dest_out - event.dest_in in
    rw (
      list_all-append is_whole (stretch_of index event 0 rise (Rise 0 rise))
          (stretch_of index event rise ((whole - fall) - rise) Flat
          ++ stretch_of index event (whole - fall) fall (Fall 0 fall)),
      list_all-append is_whole (stretch_of index event rise ((whole - fall) - rise) Flat)
          (stretch_of index event (whole - fall) fall (Fall 0 fall)),
      stretch_is_whole index event 0 rise (Rise 0 rise) (eq-eqb rise rise refl),
      stretch_is_whole index event rise ((whole - fall) - rise) Flat refl,
      stretch_is_whole index event (whole - fall) fall (Fall 0 fall) (eq-eqb fall fall refl),
    ) refl
