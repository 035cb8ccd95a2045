use Rattle.std.proofs.Common.{◌≡◌, ◌≤◌, ℕ, ◌+◌, ◌-◌, ◌*◌, inr, drop, get_or, length, take, arith, rules, refl, sym, ap, ◌∙◌, subst, length-take, length-drop}
use Rattle.std.specs.Prelude.{ℤ, pos}
use borrow.Rule.Slice.PartMut.{put_mid}
use Rattle.sound_terms.specs.declared.piece.Shape.{Shape}
use Rattle.sound_terms.specs.Depth.{bits_of}
use Rattle.sound_terms.specs.Groups.{fraction_of}
use Rattle.sound_terms.specs.Blocks.{sums_with}
use Rattle.blockmachine.specs.Sums.{AreSums, HasAdded, block_of}
use Rattle.blockmachine.proofs.Added.{IsRun, no_sample, run_fits, run_more}
use Rattle.blockmachine.proofs.addition.add_small.Goals as goal

pub slice_bounds-run-end : goal.slice_bounds-run-end
slice_bounds-run-end c =
    let stretch = c.args.played.now.stretch in
    let channels = c.args.lanes.channels in
    let inside = c.requires.inside in
    let run = c.is_run.ensures (search rules) in
    let piece : IsRun stretch.length stretch.width c.args.played.now.frames.channels channels
    (stretch.length * channels) = inr (run.1, run.2, refl) in
    let fits = run_fits stretch c.args.played.now.frames.channels c.args.lanes.frames channels 0 stretch.length
    (stretch.length * channels) inside piece (omega arith) in
    let begin : (stretch.at + 0) * channels + (stretch.dest - 1) ≡ stretch.at * channels =
    omega (arith, run.1, inside.dest_inside, inside.dest_from_one) in
    let fit : stretch.at * channels + stretch.length * channels ≤ length c.args.sums.now =
    omega (arith, fits, begin, c.requires.whole) in
    search (rules, fit)

pub returns-then-is_run : goal.returns-then-is_run
returns-then-is_run c = λ reading plays before are.
    let played = c.args.played.now in
    let stretch = played.stretch in
    let source = played.frames.channels in
    let channels = c.args.lanes.channels in
    let a = stretch.at * channels in
    let k = a + stretch.length * channels - a in
    let old = c.args.sums.now in
    let new = c.add_run.new.sums in
    let inside = c.requires.inside in
    let run = c.is_run.ensures (search rules) in
    let begin : (stretch.at + 0) * channels + (stretch.dest - 1) ≡ a =
    omega (arith, run.1, inside.dest_inside, inside.dest_from_one) in
    let long : k ≡ stretch.length * channels = omega arith in
    let piece : IsRun stretch.length stretch.width source channels k = inr (run.1, run.2, long) in
    let fit = run_fits stretch source c.args.lanes.frames channels 0 stretch.length k inside piece (omega arith) in
    let whole : length new ≡ k =
    c.add_run.auto.sums ∙ omega (arith, length-take {A = ℤ}, length-drop {A = ℤ}, fit, begin, c.requires.whole) in
    let shape : (i : ℕ) → fraction_of played.shape i ≡ (1, 1) = λ i. ap (λ (s : Shape). fraction_of s i) run.0 in
    let none : 0 * source ≡ 0 = omega arith in
    let start : 0 * source + (stretch.first - 1) ≡ 0 = omega (arith, none, run.1, run.2, played.source) in
    let added : HasAdded (1, 1) (bits_of played.frames.depth) played.frames.samples.now
    (take k (drop ((stretch.at + 0) * channels + (stretch.dest - 1)) old)) new =
    subst (λ (n : ℕ). HasAdded (1, 1) (bits_of played.frames.depth) played.frames.samples.now (take k (drop n old)) new)
    (sym begin) c.add_run.ensures in
    subst (λ (n : ℕ). AreSums (block_of c.args.lanes.frames channels (put_mid n k old new))
    (sums_with reading stretch played.shape before)) begin
    (subst (λ (n : ℕ). AreSums (block_of c.args.lanes.frames channels
    (put_mid ((stretch.at + 0) * channels + (stretch.dest - 1)) k old new)) (sums_with reading (record stretch { length = n }) played.shape before))
    (omega arith) (run_more reading stretch played.shape before source c.args.lanes.frames channels (bits_of played.frames.depth)
    played.frames.samples.now inside played.source plays 0 stretch.length k (1, 1) played.frames.samples.now old new
    piece (omega arith) c.requires.whole whole
    (λ n below. ap (λ m. get_or played.frames.samples.now m (pos 0)) (omega (arith, start)))
    (λ i low high. shape i)
    (λ i channel near low high. are i channel near low high ∙ sym (no_sample reading stretch played.shape before i channel))
    added))
