use Rattle.std.proofs.Common.{arith, ◌∙◌}
use Rattle.std.proofs.lemmas.Grind.{common_steps}
use Rattle.passes.specs.Left.{standard_in_turn}
use Rattle.passes.specs.SoundingLaws.{plays_what_sounds}
use Rattle.passes.proofs.in_turn.run.Goals as goal

pub returns-clause-given : goal.returns-clause-given
returns-clause-given g c = grind (arith, common_steps)

pub returns-clause-standard : goal.returns-clause-standard
returns-clause-standard g c honest are =
    returns-clause-given g c honest
    ∙ standard_in_turn _ _ (g.P.Samples.reading c.args.samples.now) c.args.passes.items c.args.intervals are

pub returns-clause-sounding : goal.returns-clause-sounding
returns-clause-sounding g c honest are file channel frame =
    rw (returns-clause-standard g c honest are)
    (plays_what_sounds (g.P.Samples.reading c.args.samples.now) file channel frame c.args.intervals)
