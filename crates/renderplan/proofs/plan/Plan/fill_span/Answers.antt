use Rattle.std.proofs.Common.{◌≡◌, ◌∙◌, ap}
use Rattle.sound_terms.specs.Blocks.{Programmed, block_start}
use Rattle.renderplan.specs.Spans.{span_frames, written}
use Rattle.renderplan.proofs.Formed.{same_written, written_formed, written_inside}
use Rattle.renderplan.proofs.Summing.{written_sums}
use Rattle.renderplan.proofs.ExactSums.{written_exact}
use Rattle.renderplan.proofs.plan.Plan.fill_span.Goals as goal

-- the instructions in the program
lines : (c : goal.After-write) → c.write.new.program.lines ≡ written (block_start c.args.self.now.range c.args.first)
    (span_frames c.args.self.now.range c.args.first c.args.last) c.args.self.now.range.channels c.args.self.now.range.depth c.args.self.now.pieces
lines c =
    let plan = c.args.self.now in
    ap (λ (p : Programmed). p.lines) c.write.ensures.program
    ∙ same_written (block_start plan.range c.args.first) (span_frames plan.range c.args.first c.args.last) plan.range.channels
    c.window_between-window.result.from c.window_between-window.result.frames c.window_between-window.result.channels plan.range.depth plan.pieces
    c.window_between-window.ensures.from c.window_between-window.ensures.frames c.window_between-window.ensures.channels

pub returns-clause-formed : goal.returns-clause-formed
returns-clause-formed c =
    let plan = c.args.self.now in
    rw (lines c) (written_formed (block_start plan.range c.args.first) (span_frames plan.range c.args.first c.args.last) plan.range.channels
    plan.range.depth plan.pieces c.write.ensures.planned.pieces_ok)

pub returns-clause-inside : goal.returns-clause-inside
returns-clause-inside c sounds all =
    let plan = c.args.self.now in
    rw (lines c) (written_inside sounds (block_start plan.range c.args.first) (span_frames plan.range c.args.first c.args.last)
    plan.range.channels plan.range.depth plan.pieces all)

pub returns-clause-handed : goal.returns-clause-handed
returns-clause-handed c reading full start =
    let plan = c.args.self.now in
    let planned = c.write.ensures.planned in
    rw (lines c) (written_sums reading plan.pieces (block_start plan.range c.args.first) (span_frames plan.range c.args.first c.args.last)
    plan.range.channels plan.range.depth start (rw (lines c) at full) planned.pieces_ok planned.bounded)

pub returns-clause-sums : goal.returns-clause-sums
returns-clause-sums c reading full start i channel below inside =
    let plan = c.args.self.now in
    let planned = c.write.ensures.planned in
    rw (lines c) (written_exact reading plan.pieces (block_start plan.range c.args.first)
    (span_frames plan.range c.args.first c.args.last) plan.range.channels plan.range.depth start (rw (lines c) at full)
    planned.pieces_ok planned.bounded i channel below inside)
