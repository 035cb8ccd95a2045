use Rattle.std.proofs.Common.{rules}
use Rattle.rendering.proofs.Frames.{written_front}
use Rattle.rendering.proofs.blocks.Blocks.play_at.Goals as goal

pub returns-clause-played : goal.returns-clause-played
returns-clause-played g c honest =
    written_front c.args.at c.length_of.result c.args.bytes.now c.play.new.bytes _ (search rules) (search rules)
    (rw c.from-block.ensures at (c.in_ok-clips.ensures.played honest))
