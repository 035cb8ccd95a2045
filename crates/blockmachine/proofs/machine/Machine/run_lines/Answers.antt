use Rattle.std.proofs.Common.{◌≡◌, ℕ, ◌+◌, ◌-◌, ◌*◌, [], ◌∷◌, IsTrue, length, refl, sym, ap, ◌∙◌}
use Rattle.std.proofs.lemmas.List.Elements.{All-weaker}
use Rattle.std.specs.Prelude.{ℤ, pos, slice_index_or}
use Rattle.sound_terms.specs.declared.block.Instruction.TheVariants.{Emit}
use Rattle.sound_terms.specs.declared.Depth.{Depth}
use Rattle.sound_terms.specs.Depth.{bits_of}
use Rattle.sound_terms.specs.Mix.{Reading}
use Rattle.sound_terms.specs.Blocks.{BlockState, IsFormed, block_samples, executed_all}
use Rattle.sound_terms.specs.BlockLaws.{executed_all-append, frames_kept}
use Rattle.sound_terms.specs.Sounds.{reading_by}
use Rattle.blockmachine.specs.Lines.{CanAdd, silent}
use Rattle.blockmachine.specs.Sums.{AreSums, Extent}
use Rattle.blockmachine.proofs.Fits.{fits_block}
use Rattle.blockmachine.proofs.Ran.{added_formed}
use Rattle.blockmachine.proofs.machine.Machine.run_lines.Given.{Over}
use Rattle.blockmachine.proofs.machine.Machine.run_lines.Goals as goal

-- the emitted samples depend only on the number of channels
same_channels : (depth : Depth) (n m : ℕ) (all : ℕ → ℕ → ℤ) (frames : ℕ) → n ≡ m
    → block_samples (bits_of depth) all n 0 frames ≡ block_samples (bits_of depth) all m 0 frames
same_channels depth n m all frames same = ap (λ k. block_samples (bits_of depth) all k 0 frames) same

-- the sums have the channels of the machine
as_wide : (g : Over) (c : goal.After-out-1 g) → c.sum_all.new.sums.extent.channels ≡ c.args.self.now.channels
as_wide g c = ap (λ (e : Extent). e.channels) (c.sum_all.ensures.same_extent ∙ c.self.view_is)

-- the state after the instructions in a block of `frames` sample frames
abbrev added_to : (g : Over) (c : goal.After-out-1 g) → BlockState → BlockState
added_to g c begun =
    executed_all (reading_by (g.S.Shelf.stored c.args.shelf.now) c.args.sounds.now) c.args.self.now.channels
    c.args.lines.now begun

-- the sums are the sums of that state
summed : (g : Over) (c : goal.After-out-1 g) → IsTrue (g.S.Shelf.honest c.args.shelf.now)
    → (frames : ℕ) (start : BlockState)
    → AreSums c.sum_all.new.sums (added_to g c (silent (record start { frames = frames }))).sums
summed g c honest frames start =
    c.in_ok-sum_all.ensures.summed honest c.args.self.now.channels (record start { frames = frames })

pub returns-clause-ran : goal.returns-clause-ran
returns-clause-ran g c = λ honest frames start long.
    let reading : Reading = reading_by (g.S.Shelf.stored c.args.shelf.now) c.args.sounds.now in
    let channels = c.args.self.now.channels in
    let lines = c.args.lines.now in
    let begun : BlockState = silent (record start { frames = frames }) in
    let added = added_to g c begun in
    let same = as_wide g c in
    let kept = frames_kept reading c.args.self.now.frames channels lines begun
    (All-weaker (CanAdd c.args.sounds.now c.args.self.now) (IsFormed c.args.self.now.frames channels)
    (added_formed c.args.sounds.now c.args.self.now) lines c.requires.lines) in
    c.emit.ensures added.sums (summed g c honest frames start) frames (long ∙ ap (λ n. frames * n) (sym same))
    ∙ same_channels c.args.depth c.sum_all.new.sums.extent.channels channels added.sums frames same
    ∙ ap (block_samples (bits_of c.args.depth) added.sums channels 0) (sym kept)
    ∙ sym (ap (λ (state : BlockState). state.out)
    (executed_all-append reading channels lines (Emit c.args.depth ∷ []) begun))

pub returns-clause-fit : goal.returns-clause-fit
returns-clause-fit g c =
    let sums = c.sum_all.new.sums in
    let channels = sums.extent.channels in
    let all : ℕ → ℕ → ℤ = λ i channel. slice_index_or sums.values (i * channels + (channel - 1)) (pos 0) in
    let same = as_wide g c in
    let long : length c.args.out.now ≡ c.requires.whole.0 * channels =
    c.requires.whole.2 ∙ ap (λ n. c.requires.whole.0 * n) (sym same) in
    rw (c.emit.ensures all (λ i channel room first there. refl) c.requires.whole.0 long)
    (fits_block c.args.depth all channels 0 c.requires.whole.0)
