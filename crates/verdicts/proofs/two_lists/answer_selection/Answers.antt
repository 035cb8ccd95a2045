use Rattle.std.proofs.Common.{◌≡◌, ℕ, Bool, true, false, Result, Ok, Err, refl}
use Rattle.std.specs.Prelude.{IfErr}
use Rattle.console.specs.declared.console.Console as console
use Rattle.comparing.specs.declared.compare_fault.CompareFault.{CompareFault}
use Rattle.comparing.specs.declared.compare_call.Compared.{Compared}
use Rattle.verdicts.specs.Verdicts.{IsComparedAs, Tells, comparison_lines, comparison_refusal_line, comparison_status}
use Rattle.verdicts.proofs.two_lists.answer_selection.Goals as goal

-- with a report or without, by what was printed of an outcome
compared_by : {O : Type 0} (is_report : Bool) (call : Result Compared CompareFault → Type 0) (out : console.Ghosts O)
    (old new : O) (status : ℕ) (outcome : Result Compared CompareFault) → call outcome
    → status ≡ comparison_status outcome
    → (is_report ≡ false → Tells out old new (comparison_lines outcome))
    → IfErr outcome (λ fault. Tells out old new (comparison_refusal_line fault))
    → IsComparedAs is_report call out old new status
compared_by true call out old new status outcome called ended printed refused =
    record { outcome = outcome; called = called; status_is = ended; refused = refused }
compared_by false call out old new status outcome called ended printed refused =
    record { outcome = outcome; called = called; status_is = ended; printed = printed refl }

pub returns-in-Ok-clause-compared : goal.returns-in-Ok-clause-compared
returns-in-Ok-clause-compared g c =
    compared_by c.args.choice.now.is_report _ g.O.Console c.args.terminal.now.out.now c.put_done.new.terminal.out.now c.put_done.result
    (Ok c.in-Ok.compared) c.in-Ok.ensures c.put_done.ensures.status c.put_done.ensures.printed tt

pub returns-in-Err-clause-compared : goal.returns-in-Err-clause-compared
returns-in-Err-clause-compared g c =
    compared_by c.args.choice.now.is_report _ g.O.Console c.args.terminal.now.out.now c.refuse_two.new.terminal.out.now
    c.refuse_two.result (Err c.in-Err.fault) c.in-Err.ensures c.refuse_two.ensures.status
    (λ plain. c.refuse_two.ensures.printed) c.refuse_two.ensures.printed
