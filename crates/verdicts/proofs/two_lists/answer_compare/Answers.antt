use Rattle.std.proofs.Common.{ℕ, Bool, true, false, Result, rules}
use Rattle.console.specs.declared.console.Console as console
use Rattle.commandline.specs.Request.{selected_of}
use Rattle.comparing.specs.Comparing.{IsComparing}
use Rattle.comparing.specs.declared.compare_fault.CompareFault.{CompareFault}
use Rattle.comparing.specs.declared.compare_call.Compared.{Compared}
use Rattle.verdicts.specs.Verdicts.{ComparesBy, IsComparedAs}
use Rattle.verdicts.proofs.two_lists.answer_compare.Goals as goal

-- what is called may be said otherwise
called_so : {O : Type 0} (is_report : Bool) (call other : Result Compared CompareFault → Type 0) (out : console.Ghosts O)
    (old new : O) (status : ℕ) → ((outcome : Result Compared CompareFault) → call outcome → other outcome)
    → IsComparedAs is_report call out old new status → IsComparedAs is_report other out old new status
called_so true call other out old new status so was = record {
  outcome = was.outcome;
  called = so was.outcome was.called;
  status_is = was.status_is;
  refused = was.refused;
}
called_so false call other out old new status so was = record {
  outcome = was.outcome;
  called = so was.outcome was.called;
  status_is = was.status_is;
  printed = was.printed;
}

pub returns-in-Ok-clause-compared : goal.returns-in-Ok-clause-compared
returns-in-Ok-clause-compared g c = λ some.
    called_so c.args.selected.report
    (IsComparing g.S.Shelf g.T.Shelf c.args.lists.first.now c.args.lists.second.now c.in-Ok.selection
    c.args.first_shelf.now c.answer_selection.new.first_shelf c.args.second_shelf.now
    c.answer_selection.new.second_shelf)
    (ComparesBy g.S.Shelf g.T.Shelf (selected_of c.args.selected) c.args.lists.first.now c.args.lists.second.now
    c.args.first_shelf.now c.answer_selection.new.first_shelf c.args.second_shelf.now
    c.answer_selection.new.second_shelf)
    g.O.Console c.args.terminal.now.out.now c.answer_selection.new.terminal.out.now c.answer_selection.result
    (λ outcome comparing. record { selection = c.in-Ok.selection; read = search rules; comparing = comparing })
    c.answer_selection.ensures.compared
