use Rattle.std.proofs.Common.{◌∙◌, rules}
use Rattle.std.proofs.lemmas.Int.{to_z-of_z}
use mir.Syntax.{w64}
use mir.Val.{SFits}
use Rattle.soundlaw.proofs.Shares.{share_below}
use Rattle.soundlaw.proofs.contribution.Goals as goal

pub returns-else-v-ge0-clause-share : goal.returns-else-v-ge0-clause-share
returns-else-v-ge0-clause-share c =
    let fits : SFits w64 c.args.v = c.ranges.v in
    let there : SFits w64 c.negated.result = search rules in
    let below = rw (to_z-of_z w64 c.args.v fits) at c.if-v-ge0.false in
    let size = rw (to_z-of_z w64 c.args.v fits) at c.unsigned_abs.ensures.value in
    to_z-of_z w64 c.negated.result there
    ∙ share_below c.args.v c.negated.result c.unsigned_abs.result c.args.num c.args.den c.scaled-share.result.0
    c.scaled-share.result.1
    below size c.scaled-share.ensures.quotient c.scaled-share.ensures.exact c.negated.ensures c.requires.some
