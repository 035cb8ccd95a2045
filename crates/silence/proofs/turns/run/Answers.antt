use Rattle.std.proofs.Common.{arith, ◌∙◌}
use Rattle.std.proofs.lemmas.Grind.{common_steps}
use Rattle.sound_terms.specs.Sounds.{reading_by}
use Rattle.passes.specs.Left.{standard_in_turn}
use Rattle.passes.specs.SoundingLaws.{plays_what_sounds}
use Rattle.silence.proofs.turns.run.Goals as goal

pub returns-clause-given : goal.returns-clause-given
returns-clause-given g c = grind (arith, common_steps)

pub returns-clause-standard : goal.returns-clause-standard
returns-clause-standard g c honest are =
    let reading = reading_by (g.S.Shelf.stored c.args.shelf.now) c.args.sounds.now in
    returns-clause-given g c honest
    ∙ standard_in_turn _ _ reading c.args.passes.items c.args.intervals are

pub returns-clause-sounding : goal.returns-clause-sounding
returns-clause-sounding g c honest are file channel frame =
    let reading = reading_by (g.S.Shelf.stored c.args.shelf.now) c.args.sounds.now in
    rw (returns-clause-standard g c honest are) (plays_what_sounds reading file channel frame c.args.intervals)
