use Rattle.std.proofs.Common.{refl}
use Rattle.checkreport.specs.Reported.{Accepted}
use Rattle.console.specs.PrintingLaws.{prints_more}
use Rattle.checkreport.proofs.printed.put_accepted.Goals as goal

pub returns-clause-printed : goal.returns-clause-printed
returns-clause-printed g c = (
  c.put_report.ensures.0,
  prints_more g.O.Console.contents g.O.Console.failures c.put_report.ensures.1 c.end_line.ensures,
)

pub returns-clause-reported : goal.returns-clause-reported
returns-clause-reported g c = λ list files accepted. record {
  report = Accepted c.args.checked.now.project c.args.checked.now.bound c.put_report.ensures.0;
  holds = (accepted.spelt, λ _. accepted);
  status_is = refl;
  printed = prints_more g.O.Console.contents g.O.Console.failures c.put_report.ensures.1 c.end_line.ensures;
}
