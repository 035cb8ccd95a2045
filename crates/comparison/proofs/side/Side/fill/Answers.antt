use Rattle.std.proofs.Common.{List, ap, ◌∙◌, subst}
use Rattle.std.specs.List.{All}
use Rattle.sound_terms.specs.declared.block.Instruction.{Instruction}
use Rattle.sound_terms.specs.Blocks.{PlaysFull, Programmed, executed_all}
use Rattle.sound_terms.specs.Mix.{Reading}
use Rattle.sound_terms.specs.Sounds.{reading_by}
use Rattle.comparison.specs.Side.{IsBlockOf, SideState}
use Rattle.comparison.proofs.side.Side.fill.Goals as goal

pub returns-clause-program : goal.returns-clause-program
returns-clause-program c =
    let plan = c.self.inside.plan in
    let sounds = c.self.inside.sounds.now in
    let written = c.fill.new.program.lines in
    let said = ap (λ (p : Programmed). p.lines) c.fill.ensures.program in
    let block : IsBlockOf (record { planned = plan; sounds = sounds }) c.args.k written = record {
      inside = c.fill.ensures.inside sounds c.self.invariant.inside;
      sums = λ files full start i channel below last.
          let reading : Reading = reading_by files sounds in
          let plays = subst (λ (lines : List Instruction). All (PlaysFull reading) lines) said full in
          ap (λ (lines : List Instruction). (executed_all reading plan.range.channels lines start).sums i channel) said
          ∙ c.sums_exactly.ensures reading c.args.k plays start i channel below last;
    } in
    subst (λ (side : SideState). IsBlockOf side.work c.args.k written) c.self.view_is block
