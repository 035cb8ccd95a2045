use Rattle.soundlaw.proofs.Crossfade.{crossfade_is_exact}
use Rattle.soundlaw.proofs.finish.Goals as goal

pub returns-in-Sixteen-clause-crossfade : goal.returns-in-Sixteen-clause-crossfade
returns-in-Sixteen-clause-crossfade c = crossfade_is_exact c.args.depth

pub returns-in-TwentyFour-clause-crossfade : goal.returns-in-TwentyFour-clause-crossfade
returns-in-TwentyFour-clause-crossfade c = crossfade_is_exact c.args.depth

pub returns-in-ThirtyTwo-clause-crossfade : goal.returns-in-ThirtyTwo-clause-crossfade
returns-in-ThirtyTwo-clause-crossfade c = crossfade_is_exact c.args.depth
