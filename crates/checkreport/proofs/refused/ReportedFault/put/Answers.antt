use Rattle.std.proofs.Common.{option_map, string_bytes, subst}
use Rattle.checkreport.specs.Explained.{explained_data}
use Rattle.checkreport.specs.Report.{text_in}
use Rattle.checkreport.proofs.Parts.{fault_parts}
use Rattle.console.specs.Printing.{Prints}
use Rattle.console.specs.PrintingLaws.{prints_more}
use Rattle.checkreport.proofs.refused.ReportedFault.put.Goals as goal

pub returns : goal.returns
returns g c =
    let fault = c.args.self.now in
    let C = g.O.Console.contents in
    let F = g.O.Console.failures in
    subst (Prints C F _ _)
    (fault_parts fault.entry (explained_data fault.explained) (text_in (option_map string_bytes fault.file)) fault.index fault.line fault.number)
    (prints_more C F c.put_found.ensures (prints_more C F c.put.ensures (prints_more C F c.put_explained.ensures
    (prints_more C F c.put-2.ensures (prints_more C F c.put_text.ensures
    (prints_more C F c.put_found-2.ensures (prints_more C F c.put_found-3.ensures
    (prints_more C F (rw c.from.ensures at c.put_counted.ensures) c.put-3.ensures))))))))
