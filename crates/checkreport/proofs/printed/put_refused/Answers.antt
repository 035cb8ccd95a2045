use Rattle.std.proofs.Common.{Result, inl, refl, subst}
use Rattle.work_terms.specs.Refusals.{IsDue, Refusal}
use Rattle.list_terms.specs.Heard.{read_fault}
use Rattle.list_terms.specs.Project.{ListProject}
use Rattle.opening.specs.Faults.{refusal_of}
use Rattle.checkreport.proofs.Listed.{of_honest}
use Rattle.checkreport.specs.Report.{faults_of}
use Rattle.checkreport.specs.Reported.{Refused}
use Rattle.console.specs.PrintingLaws.{prints_more}
use Rattle.checkreport.proofs.printed.put_refused.Goals as goal

pub returns-in-Ok-clause-printed : goal.returns-in-Ok-clause-printed
returns-in-Ok-clause-printed g c =
    let report = c.in-Ok.ensures.printed in
    inl (
      report.explained,
      report.further,
      report.media_error,
      report.are_all,
      report.these.of_list,
      prints_more g.O.Console.contents g.O.Console.failures report.printed c.end_line.ensures,
    )

pub returns-in-Ok-clause-found : goal.returns-in-Ok-clause-found
returns-in-Ok-clause-found g c =
    let report = c.in-Ok.ensures.printed in
    inl (
      report.explained,
      report.further,
      report.media_error,
      report.are_all,
      report.these,
      prints_more g.O.Console.contents g.O.Console.failures report.printed c.end_line.ensures,
    )

pub returns-in-Ok-clause-reported : goal.returns-in-Ok-clause-reported
returns-in-Ok-clause-reported g c =
    let report = c.in-Ok.ensures.printed in
    λ honest due. record {
      report = Refused (record { fault = c.args.first.now; explained = report.explained }) report.further report.media_error report.are_all;
      holds = (
        λ refusal is. subst (λ (read : Result ListProject Refusal).
            IsDue (refusal_of c.args.first.now) (read_fault (g.S.Shelf.stored c.args.shelf.now) read)) is due,
        λ _. due,
        of_honest (g.S.Shelf.honest c.args.shelf.now) c.args.list.now (g.S.Shelf.stored c.args.shelf.now)
            c.args.first.now (faults_of report.further) report.are_all honest report.these.of_list,
      );
      status_is = refl;
      printed = prints_more g.O.Console.contents g.O.Console.failures report.printed c.end_line.ensures;
    }
