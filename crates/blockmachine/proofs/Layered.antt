-- A layer of a block is one run of the sums.
use Rattle.std.proofs.Common.{◌≡◌, ◌<◌, ◌≤◌, ℕ, List, ◌+◌, ◌-◌, ◌*◌, inr, All, drop, get_or, length, take, arith, refl, sym, ap, ◌∙◌, subst, length-take, length-drop}
use Rattle.std.specs.Prelude.{ℤ, pos}
use Rattle.std.proofs.lemmas.List.{length-map}
use borrow.Rule.Slice.PartMut.{put_mid}
use Rattle.sound_terms.specs.declared.block.Stretch.{Stretch}
use Rattle.sound_terms.specs.declared.piece.Shape.{Shape}
use Rattle.sound_terms.specs.Mix.{full_scale}
use Rattle.sound_terms.specs.Groups.{fraction_of}
use Rattle.sound_terms.specs.Blocks.{FitsBlock, sums_with}
use Rattle.soundlaw.specs.Sums.{IsWithin}
use Rattle.blockmachine.specs.Sums.{AreSums, HasAdded, HasPlayed, TakeLayer, block_of, widened}
use Rattle.blockmachine.proofs.Added.{IsRun, no_sample, run_fits, run_more}
use Rattle.blockmachine.proofs.AtDepth.{widened-part, widened-put}
use Rattle.blockmachine.proofs.Places.{get_or-part}

module _ (stretch : Stretch) (shape : Shape) (source most channels bits depth : ℕ) (old : List ℤ)
    (all : TakeLayer most channels stretch shape source bits depth old)
  where
    abbrev inside : FitsBlock most channels stretch
    inside = all.takes.inside

    -- the start and the length of the run
    abbrev from : ℕ
    from = stretch.at * channels

    abbrev long : ℕ
    long = from + stretch.length * channels - from

    abbrev run : List ℤ
    run = take long (drop from old)

    count : long ≡ stretch.length * channels
    count = omega arith

    piece : IsRun stretch.length stretch.width source channels long
    piece = inr (all.layer.wide, all.layer.alike, count)

    begin : (stretch.at + 0) * channels + (stretch.dest - 1) ≡ from
    begin = omega (arith, all.layer.wide, inside.dest_inside, inside.dest_from_one)

    pub run_inside : from + stretch.length * channels ≤ length old
    run_inside =
        let fits = run_fits stretch source most channels 0 stretch.length long inside piece (omega arith) in
        omega (arith, fits, begin, all.takes.whole, count)

    pub length-run : length run ≡ stretch.length * channels
    length-run = omega (arith, length-take long (drop from old), length-drop from old, run_inside, count)

    pub small_run : All (IsWithin 254) (widened depth run)
    small_run =
        subst (All (IsWithin 254)) (sym (widened-part depth from long old)) (λ j d below.
        let near : j < long = omega (arith, length-take long (drop from (widened depth old)), below) in
        subst (IsWithin 254) (sym (get_or-part from long j (widened depth old) d near))
        (all.takes.small refl (from + j) d (omega (arith, run_inside, count, near, length-map old (full_scale depth)))))

    pub layer_played : (samples new : List ℤ) → stretch.first + stretch.width ≤ source + 1
        → length new ≡ length run → HasAdded (1, 1) bits samples (widened depth run) (widened depth new)
        → HasPlayed stretch shape source bits samples (block_of most channels (widened depth old))
        (block_of most channels (widened depth (put_mid from long old new)))
    layer_played samples new first same has = λ reading plays before are.
        let flat : (i : ℕ) → fraction_of shape i ≡ (1, 1) = λ i. ap (λ (s : Shape). fraction_of s i) all.layer.flat in
        let none : 0 * source ≡ 0 = omega arith in
        let start : 0 * source + (stretch.first - 1) ≡ 0 = omega (arith, none, all.layer.wide, all.layer.alike, first) in
        let part : HasAdded (1, 1) bits samples (take long (drop from (widened depth old))) (widened depth new) =
        subst (λ (l : List ℤ). HasAdded (1, 1) bits samples l (widened depth new)) (widened-part depth from long old) has in
        let added : HasAdded (1, 1) bits samples
        (take long (drop ((stretch.at + 0) * channels + (stretch.dest - 1)) (widened depth old))) (widened depth new) =
        subst (λ (n : ℕ). HasAdded (1, 1) bits samples (take long (drop n (widened depth old))) (widened depth new))
        (sym begin) part in
        subst (λ (l : List ℤ). AreSums (block_of most channels l)
        (sums_with reading stretch shape before)) (sym (widened-put depth from long old new))
        (subst (λ (n : ℕ). AreSums (block_of most channels
        (put_mid n long (widened depth old) (widened depth new))) (sums_with reading stretch shape before)) begin
        (subst (λ (n : ℕ). AreSums (block_of most channels
        (put_mid ((stretch.at + 0) * channels + (stretch.dest - 1)) long (widened depth old) (widened depth new))) (sums_with reading (record stretch { length = n }) shape before))
        (omega arith) (run_more reading stretch shape before source most channels bits samples inside first plays
        0 stretch.length long (1, 1) samples (widened depth old) (widened depth new)
        piece (omega arith) (length-map old (full_scale depth) ∙ all.takes.whole)
        (length-map new (full_scale depth) ∙ same ∙ length-run ∙ sym count)
        (λ n below. ap (λ m. get_or samples m (pos 0)) (omega (arith, start)))
        (λ i low high. flat i)
        (λ i channel near low high. are i channel near low high ∙ sym (no_sample reading stretch shape before i channel))
        added)))
