use Rattle.std.proofs.Common.{rules, ◌∙◌}
use Rattle.execution.proofs.Runs.{hand-back, hand-placed}
use Rattle.execution.proofs.EventRuns.{run-none, run-outcome, run-step}
use Rattle.execution.proofs.Notes.{notes-of}
use Rattle.execution.proofs.events.act.Goals as goal

pub returns-in-Err-clause-ran : goal.returns-in-Err-clause-ran
returns-in-Err-clause-ran g c = run-none (g.met.B.Bench.only_now c.args.bench.now) c.make_place.ensures.hands

pub returns-in-Err-get_ready-clause-ran : goal.returns-in-Err-get_ready-clause-ran
returns-in-Err-get_ready-clause-ran g c = run-none (g.met.B.Bench.only_now c.args.bench.now)
    (hand-back (hand-placed c.make_place.ensures.hands (c.get_ready.ensures.same ∙ c.take-worker.ensures.hand)
    c.take-worker.ensures.others c.put.ensures.hands))

pub returns-in-Ok-outcome-clause-ran : goal.returns-in-Ok-outcome-clause-ran
returns-in-Ok-outcome-clause-ran g c = run-step c.args.action c.args.number
    (hand-placed c.make_place.ensures.hands (c.get_ready.ensures.same ∙ c.take-worker.ensures.hand)
    c.take-worker.ensures.others c.put-2.ensures.hands)
    c.in-Ok-outcome.ensures.went

pub returns-in-Err-outcome-clause-ran : goal.returns-in-Err-outcome-clause-ran
returns-in-Err-outcome-clause-ran g c = rw c.from.ensures (run-outcome c.in-Err-outcome.fault
    (run-step c.args.action c.args.number
    (hand-placed c.make_place.ensures.hands (c.get_ready.ensures.same ∙ c.take-worker.ensures.hand)
    c.take-worker.ensures.others c.put-2.ensures.hands)
    c.in-Err-outcome.ensures.went))

pub returns-in-Err-get_ready-clause-notes : goal.returns-in-Err-get_ready-clause-notes
returns-in-Err-get_ready-clause-notes g c honest =
    let back = hand-back (hand-placed c.make_place.ensures.hands (c.get_ready.ensures.same ∙ c.take-worker.ensures.hand)
    c.take-worker.ensures.others c.put.ensures.hands) in search rules

pub returns-in-Ok-outcome-clause-notes : goal.returns-in-Ok-outcome-clause-notes
returns-in-Ok-outcome-clause-notes g c honest = notes-of
    (hand-placed c.make_place.ensures.hands (c.get_ready.ensures.same ∙ c.take-worker.ensures.hand)
    c.take-worker.ensures.others c.put-2.ensures.hands)
    (c.in-Ok-outcome.ensures.notes honest)

pub returns-in-Err-outcome-clause-notes : goal.returns-in-Err-outcome-clause-notes
returns-in-Err-outcome-clause-notes g c honest = notes-of
    (hand-placed c.make_place.ensures.hands (c.get_ready.ensures.same ∙ c.take-worker.ensures.hand)
    c.take-worker.ensures.others c.put-2.ensures.hands)
    (c.in-Err-outcome.ensures.notes honest)
