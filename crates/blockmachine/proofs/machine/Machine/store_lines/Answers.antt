use Rattle.std.proofs.Common.{◌≡◌, ℕ, ◌*◌, List, [], ◌∷◌, IsTrue, sym, ap, ◌∙◌, subst}
use Rattle.std.proofs.lemmas.List.Elements.{All-weaker}
use Rattle.std.specs.Prelude.{ℤ}
use Rattle.std.specs.List.{flat_map}
use Rattle.sound_terms.specs.declared.block.Instruction.TheVariants.{Emit}
use Rattle.sound_terms.specs.Depth.{bits_of}
use Rattle.sound_terms.specs.Mix.{Reading}
use Rattle.sound_terms.specs.Blocks.{BlockState, IsFormed, block_samples, executed_all}
use Rattle.sound_terms.specs.BlockLaws.{executed_all-append, frames_kept}
use Rattle.sound_terms.specs.Sounds.{reading_by}
use Rattle.sound_terms.specs.Waves.{sample_bytes}
use Rattle.clipping.specs.Clips.{IsClippingOf, block_sums}
use Rattle.blockmachine.specs.Lines.{CanAdd, silent}
use Rattle.blockmachine.specs.Sums.{AreSums, Extent}
use Rattle.blockmachine.proofs.Ran.{added_formed}
use Rattle.blockmachine.proofs.machine.Machine.store_lines.Given.{Over}
use Rattle.blockmachine.proofs.machine.Machine.store_lines.Goals as goal

-- the sums have the channels of the machine
as_wide : (g : Over) (c : goal.After-slice_known-2-1 g) → c.sum_all.new.sums.extent.channels ≡ c.args.self.now.channels
as_wide g c = ap (λ (e : Extent). e.channels) (c.sum_all.ensures.same_extent ∙ c.self.view_is)

-- the state after the instructions in a block of `frames` sample frames
abbrev added_to : (g : Over) (c : goal.After-slice_known-2-1 g) → BlockState → BlockState
added_to g c begun =
    executed_all (reading_by (g.S.Shelf.stored c.args.shelf.now) c.args.sounds.now) c.args.self.now.channels
    c.args.lines.now begun

-- the sums are the sums of that state
summed : (g : Over) (c : goal.After-slice_known-2-1 g) → IsTrue (g.S.Shelf.honest c.args.shelf.now)
    → (frames : ℕ) (start : BlockState)
    → AreSums c.sum_all.new.sums (added_to g c (silent (record start { frames = frames }))).sums
summed g c honest frames start =
    c.in_ok-sum_all.ensures.summed honest c.args.self.now.channels (record start { frames = frames })

pub returns-clause-ran : goal.returns-clause-ran
returns-clause-ran g c = λ honest frames start long.
    let reading : Reading = reading_by (g.S.Shelf.stored c.args.shelf.now) c.args.sounds.now in
    let bits = bits_of c.args.depth in
    let channels = c.args.self.now.channels in
    let lines = c.args.lines.now in
    let begun : BlockState = silent (record start { frames = frames }) in
    let added = added_to g c begun in
    let same = as_wide g c in
    let kept = frames_kept reading c.args.self.now.frames channels lines begun
    (All-weaker (CanAdd c.args.sounds.now c.args.self.now) (IsFormed c.args.self.now.frames channels)
    (added_formed c.args.sounds.now c.args.self.now) lines c.requires.sum.lines) in
    c.store.ensures.stored added.sums (summed g c honest frames start) frames (long ∙ ap (λ n. frames * n) (sym same))
    ∙ ap (λ (l : List ℤ). flat_map (sample_bytes bits) l)
    (ap (λ k. block_samples bits added.sums k 0 frames) same
    ∙ ap (block_samples bits added.sums channels 0) (sym kept)
    ∙ sym (ap (λ (state : BlockState). state.out)
    (executed_all-append reading channels lines (Emit c.args.depth ∷ []) begun)))

pub returns-clause-clips : goal.returns-clause-clips
returns-clause-clips g c = λ honest frames start long.
    let reading : Reading = reading_by (g.S.Shelf.stored c.args.shelf.now) c.args.sounds.now in
    let bits = bits_of c.args.depth in
    let channels = c.args.self.now.channels in
    let lines = c.args.lines.now in
    let begun : BlockState = silent (record start { frames = frames }) in
    let added = added_to g c begun in
    let same = as_wide g c in
    let found : IsClippingOf bits c.sum_all.new.sums.extent.channels
    (block_sums added.sums c.sum_all.new.sums.extent.channels 0 frames) c.store.result =
    c.store.ensures.clips added.sums (summed g c honest frames start) frames (long ∙ ap (λ n. frames * n) (sym same)) in
    let here = subst (λ (n : ℕ). IsClippingOf bits n (block_sums added.sums n 0 frames) c.store.result) same found in
    subst (λ (state : BlockState). IsClippingOf bits channels (block_sums state.sums channels 0 frames) c.store.result)
    (sym (executed_all-append reading channels lines (Emit c.args.depth ∷ []) begun)) here
