use Rattle.std.proofs.Common.{◌≡◌, ◌≤◌, ◌*◌, ◌∷◌, [], ℕ, ◌-◌, All, List, drop, length, sym, take, ap, ◌∙◌, subst}
use Rattle.sound_terms.specs.declared.block.Instruction.{Instruction}
use Rattle.sound_terms.specs.declared.block.Instruction.TheVariants.{Emit, Start}
use Rattle.sound_terms.specs.Mix.{Reading}
use Rattle.sound_terms.specs.Blocks.{BlockState, executed_all}
use Rattle.sound_terms.specs.BlockLaws.{executed_all-append}
use Rattle.sound_terms.specs.Sounds.{reading_by}
use Rattle.blockmachine.specs.Exact.{AreSumsOf}
use Rattle.blockmachine.specs.Lines.{CanAdd, silent}
use Rattle.blockmachine.specs.Sums.{AreSums, Extent}
use Rattle.blockmachine.proofs.Ran.{added_between, between_ends}
use Rattle.blockmachine.proofs.machine.Machine.sum.Goals as goal

pub sum_all-requires : goal.sum_all-requires
sum_all-requires g c =
    let fits = c.requires.fits in
    let program = c.as_slice-instructions.result.now in
    let lines = c.args.program.now.lines in
    subst (λ (e : Extent). All (CanAdd c.args.sounds.now e) (take (length program - 1 - 1) (drop 1 program)))
    (sym c.self.view_is)
    (added_between c.args.sounds.now c.args.self.now fits.0 fits.1 program lines fits.2 fits.3
    c.as_slice-instructions.ensures c.requires.inside)

pub put-requires : goal.put-requires
put-requires g c =
    let fits = c.requires.fits in
    let same : c.sum_all.new.sums.extent ≡ c.args.self.now = c.sum_all.ensures.same_extent ∙ c.self.view_is in (
      fits.0,
      subst (λ (e : Extent). fits.0 ≤ e.frames) (sym same) fits.2,
      fits.4 ∙ ap (λ (e : Extent). fits.0 * e.channels) (sym same),
    )

pub returns-in_ok-sum_all-clause-summed : goal.returns-in_ok-sum_all-clause-summed
returns-in_ok-sum_all-clause-summed g c = λ honest frames depth start block long.
    let reading : Reading = reading_by (g.S.Shelf.stored c.args.shelf.now) c.args.sounds.now in
    let channels = c.args.self.now.channels in
    let program = c.as_slice-instructions.result.now in
    let begun : BlockState = silent (record start { frames = frames }) in
    let out = c.put.new.out in
    let lines =
    between_ends program block.lines (Start frames) (Emit depth) (c.as_slice-instructions.ensures ∙ block.whole) in
    let added : BlockState = executed_all reading channels block.lines begun in
    let sums =
    subst (λ (l : List Instruction). AreSums c.sum_all.new.sums (executed_all reading channels l begun).sums) lines
    (c.in_ok-sum_all.ensures.summed honest channels (record start { frames = frames })) in
    let same : c.sum_all.new.sums.extent.channels ≡ channels =
    ap (λ (e : Extent). e.channels) (c.sum_all.ensures.same_extent ∙ c.self.view_is) in
    let handed : AreSumsOf frames c.sum_all.new.sums.extent.channels out added.sums =
    c.put.ensures added.sums sums frames (long ∙ ap (λ n. frames * n) (sym same)) in
    let here = subst (λ (n : ℕ). AreSumsOf frames n out added.sums) same handed in
    subst (λ (state : BlockState). AreSumsOf frames channels out state.sums)
    (sym (executed_all-append reading channels block.lines (Emit depth ∷ []) begun)
    ∙ ap (λ (p : List Instruction). executed_all reading channels p start) (sym block.whole)) here

pub returns-in_default : goal.returns-in_default
returns-in_default g c =
    let fits = c.requires.fits in
    let ends = c.depth_of.ensures fits.0 fits.1 fits.3.lines (c.as_slice-instructions.ensures ∙ fits.3.whole) in
    absurd (c.in_default.not-Some fits.1 ends)
