use Rattle.std.proofs.Common.{All, subst, sym}
use Rattle.sound_terms.specs.Blocks.{LiesInFiles}
use Rattle.sound_terms.specs.Groups.{pieces_of}
use Rattle.sound_terms.specs.Media.{IsPieceOf}
use Rattle.list_terms.specs.Binding.{Binding}
use Rattle.list_terms.specs.Heard.{sounds_of}
use Rattle.renderplan.specs.Planned.{Planned}
use Rattle.surface.proofs.callers.blocks.samples_of.Goals as goal

pub run-requires-clause-inside : goal.run-requires-clause-inside
run-requires-clause-inside g c =
    let sounds = sounds_of c.args.checked.now.bound in
    let at_home = c.in_ok-intervals.ensures.at_home in
    let inside : All (IsPieceOf sounds) (pieces_of c.in_ok-intervals.intervals) =
    λ k d lt. (at_home k d lt).of_file in
    let pieces : All (IsPieceOf sounds) c.in_ok-plan.plan.pieces =
    subst (λ (p : Planned). All (IsPieceOf sounds) p.pieces) (sym c.in_ok-plan.ensures.made) inside in
    subst (λ (b : Binding). All (LiesInFiles (sounds_of b)) c.fill.new.program.lines) (sym c.bound.ensures)
    (c.fill.ensures.inside sounds pieces)
