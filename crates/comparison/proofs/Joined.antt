-- Merging equal ranges of two files.
use Rattle.std.proofs.Common.{◌≡◌, ◌⊎◌, inl, inr, ℕ, ◌+◌, ◌-◌, ◌^◌, ◌<◌, ◌≤◌, List, arith, ap, subst, sym}
use Rattle.std.specs.List.{All}
use Rattle.std.specs.Prelude.{max, pos, neg_ℤ, ◌≤ℤ◌}
use Rattle.std.proofs.lemmas.Bool.{cases_lt}
use Rattle.sound_terms.specs.declared.block.Stretch.{Stretch}
use Rattle.sound_terms.specs.Mix.{Reading}
use Rattle.sound_terms.specs.Sounds.{SoundFacts}
use Rattle.comparison.specs.declared.matches.Match.{Match}
use Rattle.comparison.specs.Matched.{AreSameFrames, Follows}
use Rattle.comparison.specs.Stored.{IsMatchOf, PlayAlike}

module _ (reading other : Reading) where
  abbrev IsSameAt : (file frame other_file other_frame channel : ℕ) → Type 0
  IsSameAt file frame other_file other_frame channel =
      (reading file channel frame ≡ other other_file channel other_frame)
      × (neg_ℤ (pos (2 ^ 47)) ≤ℤ reading file channel frame) × (reading file channel frame ≤ℤ pos (2 ^ 47))

  -- a range and one that follows it
  pub continued_same : (earlier later : Match) → Follows earlier later → AreSameFrames reading other earlier
      → AreSameFrames reading other later
      → AreSameFrames reading other (record earlier { end = max earlier.end later.end })
  continued_same earlier later follows first second channel i from_one to_last below =
      by_position (cases_lt i (earlier.end - earlier.frame)) where
        by_position : (i < earlier.end - earlier.frame) ⊎ (earlier.end - earlier.frame ≤ i)
            → IsSameAt earlier.file (earlier.frame + i) earlier.other_file (earlier.other_frame + i) channel
        by_position (inl inside) = first channel i from_one to_last inside
        by_position (inr past) =
            let j = i - (later.frame - earlier.frame) in
            let here : later.frame + j ≡ earlier.frame + i = omega (arith, follows, past) in
            let other_here : later.other_frame + j ≡ earlier.other_frame + i = omega (arith, follows, past) in
            let inside : j < later.end - later.frame = omega (arith, follows, past, below) in
            let found : IsSameAt later.file (later.frame + j) later.other_file (later.other_frame + j) channel =
            second channel j from_one (omega (arith, follows, to_last)) inside in
            subst (λ (n : ℕ). IsSameAt n (earlier.frame + i) earlier.other_file (earlier.other_frame + i) channel)
            follows.same_file
            (subst (λ (n : ℕ). IsSameAt later.file (earlier.frame + i) n (earlier.other_frame + i) channel)
            follows.same_other
            (subst (λ (n : ℕ). IsSameAt later.file n later.other_file (earlier.other_frame + i) channel) here
            (subst (λ (n : ℕ). IsSameAt later.file (later.frame + j) later.other_file n channel) other_here found)))

  -- a part of a range
  pub covered_same : (whole part : Match) → Follows whole part → part.end ≤ whole.end
      → AreSameFrames reading other whole → AreSameFrames reading other part
  covered_same whole part follows ends same channel i from_one to_last below =
      let j = i + (part.frame - whole.frame) in
      let here : whole.frame + j ≡ part.frame + i = omega (arith, follows) in
      let other_here : whole.other_frame + j ≡ part.other_frame + i = omega (arith, follows) in
      let inside : j < whole.end - whole.frame = omega (arith, follows, ends, below) in
      let found : IsSameAt whole.file (whole.frame + j) whole.other_file (whole.other_frame + j) channel =
      same channel j from_one (omega (arith, follows, to_last)) inside in
      subst (λ (n : ℕ). IsSameAt n (part.frame + i) part.other_file (part.other_frame + i) channel) (sym follows.same_file)
      (subst (λ (n : ℕ). IsSameAt whole.file (part.frame + i) n (part.other_frame + i) channel) (sym follows.same_other)
      (subst (λ (n : ℕ). IsSameAt whole.file n whole.other_file (part.other_frame + i) channel) here
      (subst (λ (n : ℕ). IsSameAt whole.file (whole.frame + j) whole.other_file n channel) other_here found)))

  -- transport along equal caches and ranges
  pub both_same : (new old : List Match) (changed whole : Match) → new ≡ old → changed ≡ whole
      → All (AreSameFrames reading other) old → AreSameFrames reading other whole
      → (All (AreSameFrames reading other) new) × AreSameFrames reading other changed
  both_same new old changed whole are is all same = (
    subst (λ (l : List Match). All (AreSameFrames reading other) l) (sym are) all,
    subst (AreSameFrames reading other) (sym is) same,
  )

  -- an empty range
  pub none_same : (none : Match) → none.end ≡ 0 → AreSameFrames reading other none
  none_same none empty channel i from_one to_last below = absurd (omega (arith, empty, below))

  -- two stretches play equal samples in an equal range
  pub known_alike : (sounds others : List SoundFacts) (stretch part : Stretch) (found : Match)
      → IsMatchOf sounds others stretch part found → AreSameFrames reading other found
      → PlayAlike reading other stretch part
  known_alike sounds others stretch part found is known =
      let first : part.first ≡ stretch.first = ap (λ (s : Stretch). s.first) is.layout in
      let long : part.length ≡ stretch.length = ap (λ (s : Stretch). s.length) is.layout in
      let width : part.width ≡ stretch.width = ap (λ (s : Stretch). s.width) is.layout in
      let at : (j i : ℕ) → j < stretch.width → i < stretch.length
      → IsSameAt stretch.file (stretch.frame + i) part.file (part.frame + i) (stretch.first + j) = λ j i on inside.
      rw (← is.file, ← is.frame, ← is.other_file, ← is.other_frame)
      (known (stretch.first + j) i (omega (arith, is.from_one)) (omega (arith, is.wide, on))
      (omega (arith, inside, is.end, is.frame))) in
      record {
        layout = is.layout;
        samples = λ j i on inside. rw first (at j i on inside).0;
        full = λ j i on inside. ((at j i on inside).1, (at j i on inside).2);
        other_full = λ j i on inside.
            let mine = at j i (omega (arith, on, width)) (omega (arith, inside, long)) in
            rw (first, ← mine.0) (mine.1, mine.2);
      }
