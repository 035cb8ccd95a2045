use Rattle.std.proofs.Common.{subst, sym}
use Rattle.passes.specs.Left.{standard_left}
use Rattle.answers.specs.Requests.{AnswersAsked}
use Rattle.answers.proofs.requests.answer_request.Goals as goal

pub returns-clause-checked : goal.returns-clause-checked
returns-clause-checked g c path media request =
    (subst (AnswersAsked _ _ _ _ _ _ _ _ _) request c.carry_out.ensures.answered).0

pub returns-clause-check_writes_nothing : goal.returns-clause-check_writes_nothing
returns-clause-check_writes_nothing g c path media request =
    (subst (AnswersAsked _ _ _ _ _ _ _ _ _) request c.carry_out.ensures.answered).1

pub returns-clause-reported : goal.returns-clause-reported
returns-clause-reported g c path media request =
    (subst (AnswersAsked _ _ _ _ _ _ _ _ _) request c.carry_out.ensures.answered).0

pub returns-clause-report_printed : goal.returns-clause-report_printed
returns-clause-report_printed g c path media request =
    (subst (AnswersAsked _ _ _ _ _ _ _ _ _) request c.carry_out.ensures.answered).1

pub returns-clause-report_writes_nothing : goal.returns-clause-report_writes_nothing
returns-clause-report_writes_nothing g c path media request =
    (subst (AnswersAsked _ _ _ _ _ _ _ _ _) request c.carry_out.ensures.answered).2

pub returns-clause-rendered : goal.returns-clause-rendered
returns-clause-rendered g c path media target chosen request =
    (subst (AnswersAsked _ _ _ _ _ _ _ _ _) request c.carry_out.ensures.answered).0

pub returns-clause-bad_time : goal.returns-clause-bad_time
returns-clause-bad_time g c path media target chosen option request =
    (subst (AnswersAsked _ _ _ _ _ _ _ _ _) request c.carry_out.ensures.answered).1 option

pub returns-clause-resumed : goal.returns-clause-resumed
returns-clause-resumed g c path media target chosen request =
    (subst (AnswersAsked _ _ _ _ _ _ _ _ _) request c.carry_out.ensures.answered).0

pub returns-clause-bad_time_resumed : goal.returns-clause-bad_time_resumed
returns-clause-bad_time_resumed g c path media target chosen option request =
    (subst (AnswersAsked _ _ _ _ _ _ _ _ _) request c.carry_out.ensures.answered).1 option

pub returns-clause-consolidated : goal.returns-clause-consolidated
returns-clause-consolidated g c path media target handle form request =
    subst (AnswersAsked _ _ _ _ _ _ _ _ _) request c.carry_out.ensures.answered

pub returns-clause-standard : goal.returns-clause-standard
returns-clause-standard g c are path media target handle form request =
    rw (sym (standard_left _ _ c.args.command.passes.items are)) (subst (AnswersAsked _ _ _ _ _ _ _ _ _) request c.carry_out.ensures.answered)

pub returns-clause-bad_time_shown : goal.returns-clause-bad_time_shown
returns-clause-bad_time_shown g c path media handle drawn option request =
    (subst (AnswersAsked _ _ _ _ _ _ _ _ _) request c.carry_out.ensures.answered).0 option

pub returns-clause-picture_writes_nothing : goal.returns-clause-picture_writes_nothing
returns-clause-picture_writes_nothing g c path media handle drawn request =
    (subst (AnswersAsked _ _ _ _ _ _ _ _ _) request c.carry_out.ensures.answered).1

pub returns-clause-explained : goal.returns-clause-explained
returns-clause-explained g c number request =
    subst (AnswersAsked _ _ _ _ _ _ _ _ _) request c.carry_out.ensures.answered

pub returns-clause-explained_notice : goal.returns-clause-explained_notice
returns-clause-explained_notice g c number request =
    subst (AnswersAsked _ _ _ _ _ _ _ _ _) request c.carry_out.ensures.answered
