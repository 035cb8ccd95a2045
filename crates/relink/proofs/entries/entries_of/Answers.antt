use Rattle.list_terms.specs.Renewed.{run_event}
use Rattle.relink.specs.NumberingLaws.{numbered_step}
use Rattle.relink.proofs.entries.entries_of.Goals as goal

pub loop-position-preserved : goal.loop-position-preserved
loop-position-preserved c =
    numbered_step (run_event c.args.runs.now.homes c.args.runs.now.runs)
    c.loop-position.position c.args.groups.now _ _ _ _ c.loop-position-test.true
    c.loop-position.invariant c.in_ok-push.ensures.items c.entry_of-event.ensures
