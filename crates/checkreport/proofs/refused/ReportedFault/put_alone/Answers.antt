use Rattle.std.proofs.Common.{subst}
use Rattle.checkreport.specs.Parts.{ready_data}
use Rattle.checkreport.proofs.Parts.{unread_text}
use Rattle.console.specs.Printing.{Prints}
use Rattle.console.specs.PrintingLaws.{prints_more}
use Rattle.checkreport.proofs.refused.ReportedFault.put_alone.Goals as goal

pub returns : goal.returns
returns g c =
    let C = g.O.Console.contents in
    let F = g.O.Console.failures in
    prints_more C F (subst (Prints C F _ _) (unread_text (ready_data c.args.self.now))
    (prints_more C F c.put.ensures (prints_more C F c.put-2.ensures c.put_end.ensures))) c.end_line.ensures
