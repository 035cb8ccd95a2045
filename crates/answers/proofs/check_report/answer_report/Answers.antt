use Rattle.std.proofs.Common.{◌≡◌, ℕ, Bool, IsTrue, List, inl, inr, subst}
use Rattle.work_terms.specs.Disk.{Files}
use Rattle.work_terms.specs.Refusals.{IsDue}
use Rattle.list_terms.specs.Heard.{project_fault}
use Rattle.opening.specs.Faults.{refusal_of}
use Rattle.opening.specs.declared.fault.Fault.{Fault}
use Rattle.checkreport.specs.Report.{faults_of}
use Rattle.checkreport.specs.Reported.{Accepted, AreOfList, IsOfText, PrintsRefusedLine, Refused, Untold}
use Rattle.console.specs.declared.console.Console as console
use Rattle.answers.specs.Answers.{IsReportPrinted}
use Rattle.answers.proofs.check_report.answer_report.Goals as goal

pub returns-in-Ok-clause-reported : goal.returns-in-Ok-clause-reported
returns-in-Ok-clause-reported g c = λ honest. c.put_accepted.ensures.reported _ _ (c.in-Ok.ensures.accepted honest)

pub returns-in-Err-clause-reported : goal.returns-in-Err-clause-reported
returns-in-Err-clause-reported g c = λ honest.
    let sources = c.in-Err.ensures.only_reads in
    let now : IsTrue (g.S.Shelf.honest c.open_project-outcome.new.shelf) = rw sources.honest_same honest in
    (rw (sources.same) at c.put_refused-status.ensures.reported) now (c.in-Err.ensures.refusals honest)

-- what is printed of a refused list, over sources that are as they were before it was opened
refused_report : {O : Type 0} (honest now_honest : Bool) (list : List ℕ) (files now_files : Files)
    (out : console.Ghosts O) (old new : O) (first : Fault) (status : ℕ) → now_honest ≡ honest → now_files ≡ files
    → IsOfText list (refusal_of first)
    → (IsTrue honest → IsDue (refusal_of first) (project_fault list files))
    → PrintsRefusedLine out old new first (AreOfList now_honest list now_files first)
    → status ≡ 1 → IsReportPrinted honest list files out old new status
refused_report honest now_honest list files now_files out old new first status same_honest same text due (inl line) one = record {
  report = Refused (record { fault = first; explained = line.0 }) line.1 line.2 line.3;
  holds = (
    text,
    due,
    subst (λ (f : Files). AreOfList honest list f first (faults_of line.1) line.3) same
        (subst (λ (b : Bool). AreOfList b list now_files first (faults_of line.1) line.3) same_honest line.4),
  );
  status_is = one;
  printed = line.5;
}
refused_report honest now_honest list files now_files out old new first status same_honest same text due (inr line) one = record {
  report = Untold;
  holds = tt;
  status_is = one;
  printed = line;
}

pub returns-in-Ok-clause-printed : goal.returns-in-Ok-clause-printed
returns-in-Ok-clause-printed g c = record {
  report = Accepted c.in-Ok.checked.project c.in-Ok.checked.bound c.put_accepted.ensures.printed.0;
  holds = (c.in-Ok.ensures.spelt, λ honest. c.in-Ok.ensures.accepted honest);
  status_is = c.put_accepted.ensures.status;
  printed = c.put_accepted.ensures.printed.1;
}

pub returns-in-Err-clause-printed : goal.returns-in-Err-clause-printed
returns-in-Err-clause-printed g c =
    let sources = c.in-Err.ensures.only_reads in
    refused_report (g.S.Shelf.honest c.args.shelf.now) (g.S.Shelf.honest c.open_project-outcome.new.shelf)
    c.args.list.now (g.S.Shelf.stored c.args.shelf.now) (g.S.Shelf.stored c.open_project-outcome.new.shelf)
    g.O.Console c.args.terminal.now.out.now c.put_refused-status.new.out c.in-Err.fault c.put_refused-status.result
    sources.honest_same sources.same (λ refusal is. (c.in-Err.ensures.bad_text refusal is).0) c.in-Err.ensures.refusals
    c.put_refused-status.ensures.printed c.put_refused-status.ensures.status
