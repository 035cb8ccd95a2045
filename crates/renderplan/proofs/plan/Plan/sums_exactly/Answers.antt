use Rattle.sound_terms.specs.Blocks.{block_frames, block_start}
use Rattle.renderplan.proofs.ExactSums.{written_exact}
use Rattle.renderplan.proofs.plan.Plan.sums_exactly.Goals as goal

pub returns : goal.returns
returns c reading k full start i channel below inside =
    let plan = c.args.self.now in
    let planned = c.format.ensures.planned in
    written_exact reading plan.pieces (block_start plan.range k) (block_frames plan.range k) plan.range.channels
    plan.range.depth start full planned.pieces_ok planned.bounded i channel below inside
