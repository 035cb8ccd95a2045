use Rattle.std.proofs.Common.{◌≡◌, ◌∙◌, ap}
use Rattle.sound_terms.specs.Blocks.{Programmed, block_start, block_frames}
use Rattle.renderplan.specs.Spans.{written}
use Rattle.renderplan.proofs.Formed.{same_written, written_formed, written_inside}
use Rattle.renderplan.proofs.Summing.{written_sums}
use Rattle.renderplan.proofs.plan.Plan.fill.Goals as goal

-- the instructions in the program
lines : (c : goal.After-write) → c.write.new.program.lines ≡ written (block_start c.args.self.now.range c.args.k)
    (block_frames c.args.self.now.range c.args.k) c.args.self.now.range.channels c.args.self.now.range.depth c.args.self.now.pieces
lines c =
    let plan = c.args.self.now in
    ap (λ (p : Programmed). p.lines) c.write.ensures.program
    ∙ same_written (block_start plan.range c.args.k) (block_frames plan.range c.args.k) plan.range.channels
    c.window_of.result.from c.window_of.result.frames c.window_of.result.channels plan.range.depth plan.pieces
    c.window_of.ensures.from c.window_of.ensures.frames c.window_of.ensures.channels

pub returns-clause-formed : goal.returns-clause-formed
returns-clause-formed c =
    let plan = c.args.self.now in
    rw (lines c) (written_formed (block_start plan.range c.args.k) (block_frames plan.range c.args.k) plan.range.channels
    plan.range.depth plan.pieces c.write.ensures.planned.pieces_ok)

pub returns-clause-inside : goal.returns-clause-inside
returns-clause-inside c sounds all =
    let plan = c.args.self.now in
    rw (lines c) (written_inside sounds (block_start plan.range c.args.k) (block_frames plan.range c.args.k)
    plan.range.channels plan.range.depth plan.pieces all)

pub returns-clause-sums : goal.returns-clause-sums
returns-clause-sums c reading full start =
    let plan = c.args.self.now in
    let planned = c.write.ensures.planned in
    rw (lines c) (written_sums reading plan.pieces (block_start plan.range c.args.k) (block_frames plan.range c.args.k)
    plan.range.channels plan.range.depth start (rw (lines c) at full) planned.pieces_ok planned.bounded)
