use Rattle.std.proofs.Common.{List, drop, length-drop, arith, sym, ap, ◌∙◌}
use Rattle.std.specs.List.{flat_map}
use Rattle.std.proofs.lemmas.List.{drop-drop}
use Rattle.sound_terms.specs.declared.block.Instruction.{Instruction}
use Rattle.sound_terms.specs.declared.piece.Piece.{Piece}
use Rattle.sound_terms.specs.Blocks.{lines_of}
use Rattle.renderplan.specs.Reaches.{IsReach}
use Rattle.renderplan.specs.Sources.{first_source}
use Rattle.renderplan.proofs.Passing.{none_passed, passed_over}
use Rattle.renderplan.proofs.reach.Reached.next_near.Goals as goal

pub loop-next-preserved : goal.loop-next-preserved
loop-next-preserved c =
    let pieces : List Piece = c.args.self.now in
    let window = c.args.window in
    let next = c.loop-next.next in
    let lines : Piece → List Instruction = lines_of window.from window.frames window.channels in
    let reach = c.reach_from-reach.result in
    let is : IsReach (drop next pieces) reach = c.reach_from-reach.ensures in
    let there = is.there in
    let same = length-drop next pieces in
    let test = rw c.from.ensures at (sym c.is_outside.ensures ∙ c.if-not-is_outside.false) in
    let passed = drop-drop reach.count next pieces in
    record {
      after = omega (arith, c.loop-next.invariant.after);
      there = λ below. omega (arith, there, same, c.loop-next.invariant.there below);
      lines = ap (flat_map lines) (sym passed)
          ∙ sym (passed_over window.from window.frames window.channels (drop next pieces) reach is test)
          ∙ c.loop-next.invariant.lines;
      first = ap (first_source window.from window.frames window.channels) (sym passed)
          ∙ sym (none_passed window.from window.frames window.channels (drop next pieces) reach is test)
          ∙ c.loop-next.invariant.first;
    }
