use Rattle.std.proofs.lemmas.Bool.{not-false, not-true}
use Rattle.devices.specs.ViewLaws.{writes_of}
use Rattle.execution.proofs.Firsts.{raised}
use Rattle.execution.proofs.LastRounds.{listed-turns}
use Rattle.execution.proofs.Outcomes.{finish-failed, finished-all, stopped, stopped-early}
use Rattle.execution.proofs.Rounds.{rounds-finished}
use Rattle.execution.proofs.course.resume.Goals as goal

pub returns-in-Err-clause-resumed : goal.returns-in-Err-clause-resumed
returns-in-Err-clause-resumed g c =
    stopped c.in-Err.ensures.performed c.requires.whole c.in-Err.ensures.performed.stops

pub returns-then-not-progress-clause-resumed : goal.returns-then-not-progress-clause-resumed
returns-then-not-progress-clause-resumed g c = stopped-early c.in-Ok.ensures.performed
    c.requires.whole (listed-turns c.args.in_rounds _ c.args.events.now) (not-true c.in-Ok.progress.finished c.if-not-progress.true)

pub returns-in-Ok-finish-clause-resumed : goal.returns-in-Ok-finish-clause-resumed
returns-in-Ok-finish-clause-resumed g c = finished-all c.in-Ok.ensures.performed
    c.requires.whole (listed-turns c.args.in_rounds _ c.args.events.now) (not-false c.in-Ok.progress.finished c.if-not-progress.false) c.in-Ok-finish.ensures.same
    c.in-Ok-finish.ensures.finishes (writes_of g.B.Bench c.in-Ok-finish.ensures.only_writes)
    (c.in-Ok-finish.ensures.only_writes.cause.left tt)

pub returns-in-Err-finish-clause-resumed : goal.returns-in-Err-finish-clause-resumed
returns-in-Err-finish-clause-resumed g c = rw c.from.ensures (finish-failed c.in-Ok.ensures.performed
    c.requires.whole (listed-turns c.args.in_rounds _ c.args.events.now) (not-false c.in-Ok.progress.finished c.if-not-progress.false) c.in-Err-finish.ensures.same
    c.in-Err-finish.fault c.in-Err-finish.ensures.finishes
    (writes_of g.B.Bench c.in-Err-finish.ensures.only_writes) (record {
      rose = raised c.in-Err-finish.ensures.only_writes.cause tt;
      failed = c.in-Err-finish.ensures.only_writes.failed_there tt;
    }))

pub returns-then-not-progress-clause-finished : goal.returns-then-not-progress-clause-finished
returns-then-not-progress-clause-finished g c in_turn rest empty =
    rounds-finished c.args.events.now in_turn c.in-Ok.ensures.performed c.requires.whole rest empty

pub returns-in-Ok-finish-clause-finished : goal.returns-in-Ok-finish-clause-finished
returns-in-Ok-finish-clause-finished g c in_turn rest empty =
    rounds-finished c.args.events.now in_turn c.in-Ok.ensures.performed c.requires.whole rest empty
