-- Adding a stretch increases sums by at most one sample while it sounds, and leaves the others unchanged.
use Rattle.std.proofs.Common.{◌≡◌, ◌⊎◌, inl, inr, ℕ, ◌+◌, ◌-◌, ◌*◌, ◌/◌, ◌%◌, ◌<◌, ◌≤◌, All, Bool, true, false, List, ◌++◌, length, take, get_or, refl, sym, ap, ◌∙◌, subst, arith}
use Rattle.std.specs.Prelude.{ℤ, pos, ◌+ℤ◌, ◌&&◌, nat_le, nat_lt, if◌then◌else◌}
use Rattle.std.proofs.lemmas.Bool.{cases_lt}
use Rattle.std.proofs.lemmas.Bool.Decides.{nat_tests}
use Rattle.std.proofs.lemmas.List.{get_or_default, take-append-le, take_all}
use Rattle.std.proofs.Math.Nat.{add-mul, div-add-mod, div-lt_iff_lt-mul, mod-lt, mul-le-mul_right}
use Rattle.facts.specs.Tests.{and_left, and_right, otherwise}
use Rattle.sound_terms.specs.declared.Depth.{Depth}
use Rattle.sound_terms.specs.declared.block.Stretch.{Stretch}
use Rattle.sound_terms.specs.declared.piece.Shape.{Shape}
use Rattle.sound_terms.specs.declared.piece.Shape.TheVariants.{Flat, Rise, Fall}
use Rattle.sound_terms.specs.Depth.{bits_of}
use Rattle.sound_terms.specs.Mix.{Reading, full_scale, share_of}
use Rattle.sound_terms.specs.Groups.{IsRamp, fraction_of}
use Rattle.sound_terms.specs.Blocks.{FitsBlock, IsFull, held, is_on, share_at, sums_with}
use Rattle.pcm.specs.Samples.{FitsDepth}
use Rattle.blockmachine.specs.Playing.{Plays}
use Rattle.soundlaw.specs.Sums.{IsWithin}
use Rattle.blockmachine.specs.Sums.{AreFew, BlockSums, Counts, HasPlayed, block_of, few_additions}
use Rattle.soundlaw.specs.SumLaws.{held_grow, share_within, within_add, within_more}
use Rattle.blockmachine.proofs.Full.{full_frames}

-- a full overwrite of a list
pub written : (n : ℕ) (new rest : List ℤ) → length new ≡ n → take n (new ++ rest) ≡ new
written n new rest long = take-append-le n new rest (omega (arith, long)) ∙ take_all n new (omega (arith, long))

-- transport of `HasPlayed` along equal sums
pub played_as : (stretch : Stretch) (shape : Shape) (source depth : ℕ) (frames : List ℤ) (old self new kept : BlockSums)
    → old ≡ self → new ≡ kept → HasPlayed stretch shape source depth frames old new
    → HasPlayed stretch shape source depth frames self kept
played_as stretch shape source depth frames old self new kept before after played =
    subst (λ (s : BlockSums). HasPlayed stretch shape source depth frames s kept) before
    (subst (HasPlayed stretch shape source depth frames old) after played)

-- a share of a sample under a ramp is at most a sample
ramp_share : (shape : Shape) (n i : ℕ) (v : ℤ) → IsRamp shape n → i < n → IsWithin 1 v
    → IsWithin 1 (share_of v (fraction_of shape i))
ramp_share Flat n i v ramp below within = share_within v 1 1 within (omega arith) (omega arith)
ramp_share (Rise offset den) n i v ramp below within =
    share_within v (offset + i) den within (omega (arith, ramp.0)) (omega (arith, ramp.0))
ramp_share (Fall offset den) n i v ramp below within =
    share_within v (den - (offset + i)) den within (omega (arith, ramp.0)) (omega (arith, ramp.0))

added_within : (m : ℕ) (on : Bool) (x y : ℤ) → IsWithin m y → (on ≡ true → IsWithin 1 x)
    → IsWithin (m + 1) (if on then held (y +ℤ x) else y)
added_within m true x y within share = held_grow (m + 1) (y +ℤ x) (within_add m 1 y x within (share refl))
added_within m false x y within share = within_more m (m + 1) y (omega arith) within

module _ (stretch : Stretch) (shape : Shape) (source most_frames channels : ℕ) (depth : Depth) (frames old new : List ℤ)
    (inside : FitsBlock most_frames channels stretch) (ramp : IsRamp shape stretch.length)
    (fit : All (FitsDepth (bits_of depth)) frames) (whole : length frames ≡ stretch.length * source)
    (last : stretch.first + stretch.width ≤ source + 1) (room : length new ≡ most_frames * channels)
    (same : length old ≡ length new)
    (played : HasPlayed stretch shape source (bits_of depth) frames (block_of most_frames channels old)
    (block_of most_frames channels new))
  where
    -- a reading that yields the given samples
    abbrev reading : Reading
    reading file channel frame =
        full_scale (bits_of depth) (get_or frames ((frame - stretch.frame) * source + (channel - 1)) (pos 0))

    plays : Plays reading stretch source (bits_of depth) frames
    plays = λ i j below on.
        let row : stretch.frame + i - stretch.frame ≡ i = omega arith in
        let column : stretch.first + j - 1 ≡ stretch.first - 1 + j = omega (arith, inside.source_from_one) in
        ap (λ (n : ℕ). full_scale (bits_of depth) (get_or frames (n * source + (stretch.first - 1 + j)) (pos 0))) (sym row)
        ∙ ap (λ (n : ℕ). full_scale (bits_of depth)
        (get_or frames ((stretch.frame + i - stretch.frame) * source + n) (pos 0))) (sym column)

    full : IsFull reading stretch
    full = full_frames reading stretch source depth frames fit plays whole inside.source_from_one last

    abbrev before : ℕ → ℕ → ℤ
    before i c = get_or old (i * channels + (c - 1)) (pos 0)

    after : (i c : ℕ) → i < most_frames → 1 ≤ c → c ≤ channels
        → get_or new (i * channels + (c - 1)) (pos 0) ≡ sums_with reading stretch shape before i c
    after = played reading plays before (λ i c near low high. refl)

    -- the share at a sample is at most a sample
    share : (i c : ℕ) → is_on stretch i c ≡ true → IsWithin 1 (share_at reading stretch shape i c)
    share i c on =
        let low : nat_le stretch.dest c ≡ true = and_left _ _ on in
        let rest = and_right (nat_le stretch.dest c) _ on in
        let high : nat_lt c (stretch.dest + stretch.width) ≡ true = and_left _ _ rest in
        let times = and_right (nat_lt c (stretch.dest + stretch.width)) _ rest in
        let begun : nat_le stretch.at i ≡ true = and_left _ _ times in
        let ends : nat_lt i (stretch.at + stretch.length) ≡ true = and_right (nat_le stretch.at i) _ times in
        let near : i - stretch.at < stretch.length = grind (arith, nat_tests, begun, ends) in
        let there : c - stretch.dest < stretch.width = grind (arith, nat_tests, low, high) in
        ramp_share shape stretch.length (i - stretch.at) _ ramp near (full (c - stretch.dest) (i - stretch.at) there near)

    -- index k from its sample frame and channel
    place : (k : ℕ) → 1 ≤ channels → k / channels * channels + (k % channels + 1 - 1) ≡ k
    place k some = omega (arith, div-add-mod k channels)

    frame_of : (k : ℕ) → 1 ≤ channels → k < most_frames * channels → k / channels < most_frames
    frame_of k some below = (div-lt_iff_lt-mul some).1 below

    grown_at : (m k : ℕ) → k < most_frames * channels → IsWithin m (get_or old k (pos 0))
        → IsWithin (m + 1) (get_or new k (pos 0))
    grown_at m k below within =
        let some : 1 ≤ channels = omega (arith, inside.wide, inside.dest_inside, inside.dest_from_one) in
        let at = place k some in
        let i = k / channels in
        let c = k % channels + 1 in
        let is = after i c (frame_of k some below) (omega arith) (omega (arith, mod-lt k some)) in
        subst (λ (n : ℕ). IsWithin (m + 1) (get_or new n (pos 0))) at
        (subst (IsWithin (m + 1)) (sym is)
        (added_within m (is_on stretch i c) (share_at reading stretch shape i c) (before i c)
        (subst (λ (n : ℕ). IsWithin m (get_or old n (pos 0))) (sym at) within) (share i c)))

    kept_at : (k : ℕ) → k < most_frames * channels
        → (k < stretch.at * channels) ⊎ ((stretch.at + stretch.length) * channels ≤ k)
        → get_or new k (pos 0) ≡ get_or old k (pos 0)
    kept_at k below other =
        let some : 1 ≤ channels = omega (arith, inside.wide, inside.dest_inside, inside.dest_from_one) in
        let at = place k some in
        let i = k / channels in
        let c = k % channels + 1 in
        let is = after i c (frame_of k some below) (omega arith) (omega (arith, mod-lt k some)) in
        ap (λ (n : ℕ). get_or new n (pos 0)) (sym at) ∙ is
        ∙ otherwise (nat_le stretch.dest c) (nat_lt c (stretch.dest + stretch.width)) _ _ _ (off other)
        ∙ ap (λ (n : ℕ). get_or old n (pos 0)) at where
          off : (k < stretch.at * channels) ⊎ ((stretch.at + stretch.length) * channels ≤ k)
              → (nat_le stretch.at (k / channels) && nat_lt (k / channels) (stretch.at + stretch.length)) ≡ false
          off (inl front) =
              let some : 1 ≤ channels = omega (arith, inside.wide, inside.dest_inside, inside.dest_from_one) in
              let early : k / channels < stretch.at = (div-lt_iff_lt-mul some).1 front in grind (arith, nat_tests, early)
          off (inr behind) = by_place (cases_lt (k / channels) (stretch.at + stretch.length)) where
            by_place : (k / channels < stretch.at + stretch.length) ⊎ (stretch.at + stretch.length ≤ k / channels)
                → (nat_le stretch.at (k / channels) && nat_lt (k / channels) (stretch.at + stretch.length)) ≡ false
            by_place (inl early) =
                let some : 1 ≤ channels = omega (arith, inside.wide, inside.dest_inside, inside.dest_from_one) in
                let front : k < (stretch.at + stretch.length) * channels = (div-lt_iff_lt-mul some).0 early in
                absurd (omega (arith, front, behind))
            by_place (inr late) = grind (arith, nat_tests, late)

    more_few : (most from more : ℕ) → AreFew most (from * channels) old → Counts most from stretch.at more
        → AreFew more ((stretch.at + stretch.length) * channels) new
    more_few most from more few (inl raised) = (
      λ k d below.
          let near : k < most_frames * channels = omega (arith, below, room) in
          subst (IsWithin more) (sym (get_or_default new k d (pos 0) below))
          (subst (λ (m : ℕ). IsWithin m (get_or new k (pos 0))) (sym raised)
          (grown_at most k near (few.0 k (pos 0) (omega (arith, below, same))))),
      λ k later below.
          let near : k < most_frames * channels = omega (arith, below, room) in
          let one : most ≡ more - 1 = omega (arith, raised) in
          subst (IsWithin (more - 1)) (sym (kept_at k near (inr later)))
          (subst (λ (m : ℕ). IsWithin m (get_or old k (pos 0))) one (few.0 k (pos 0) (omega (arith, below, same)))),
    )
    more_few most from more few (inr part) = (all, rest) where
      started : from * channels ≤ stretch.at * channels
      started = mul-le-mul_right channels part.2

      all : All (IsWithin more) new
      all k d below = by_place (cases_lt k (stretch.at * channels)) where
        by_place : (k < stretch.at * channels) ⊎ (stretch.at * channels ≤ k) → IsWithin more (get_or new k d)
        by_place (inl front) =
            let near : k < most_frames * channels = omega (arith, below, room) in
            subst (IsWithin more) (sym (get_or_default new k d (pos 0) below ∙ kept_at k near (inl front)))
            (subst (λ (m : ℕ). IsWithin m (get_or old k (pos 0))) (sym part.0)
            (few.0 k (pos 0) (omega (arith, below, same))))
        by_place (inr later) =
            let near : k < most_frames * channels = omega (arith, below, room) in
            let one : most - 1 + 1 ≡ more = omega (arith, part.0, part.1) in
            subst (IsWithin more) (sym (get_or_default new k d (pos 0) below))
            (subst (λ (m : ℕ). IsWithin m (get_or new k (pos 0))) one
            (grown_at (most - 1) k near (few.1 k (omega (arith, later, started)) (omega (arith, below, same)))))

      rest : (k : ℕ) → (stretch.at + stretch.length) * channels ≤ k → k < length new
          → IsWithin (more - 1) (get_or new k (pos 0))
      rest k later below =
          let near : k < most_frames * channels = omega (arith, below, room) in
          let parts = add-mul stretch.at stretch.length channels in
          subst (IsWithin (more - 1)) (sym (kept_at k near (inr later)))
          (subst (λ (m : ℕ). IsWithin (m - 1) (get_or old k (pos 0))) (sym part.0)
          (few.1 k (omega (arith, later, started, parts)) (omega (arith, below, same))))

    pub few_after : (most from more : ℕ) → (most < few_additions → AreFew most (from * channels) old)
        → more < few_additions → Counts most from stretch.at more
        → AreFew more ((stretch.at + stretch.length) * channels) new
    few_after most from more few below counted = more_few most from more (few (less counted)) counted where
      less : Counts most from stretch.at more → most < few_additions
      less (inl raised) = omega (arith, raised, below)
      less (inr part) = omega (arith, part.0, below)
