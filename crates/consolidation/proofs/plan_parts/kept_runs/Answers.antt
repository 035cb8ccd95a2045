use Rattle.consolidation.proofs.Addressed.{all_addressed}
use Rattle.consolidation.proofs.plan_parts.kept_runs.Goals as goal

pub returns-in-Ok-kept-clause-kept : goal.returns-in-Ok-kept-clause-kept
returns-in-Ok-kept-clause-kept c =
    let found = rw (c.in-Ok.ensures, c.bound-bound.ensures) at c.in-Ok-kept.ensures in record {
      left = c.requires;
      homes = found.homes;
      few = found.sound.few;
      kept = found.kept;
      one = found.one;
      addressed = all_addressed c.args.checked.now.bound (rw c.bound-bound.ensures at c.sounds.ensures.bound)
          (rw found.homes at found.sound.homes_ok) c.args.intervals.now c.args.handle c.requires.at_home _ found.kept;
    }
