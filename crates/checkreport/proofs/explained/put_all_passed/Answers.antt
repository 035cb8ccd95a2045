use Rattle.std.proofs.Common.{◌∷◌, [], subst}
use Rattle.checkreport.proofs.Parts.{passed_text_of}
use Rattle.console.specs.Printing.{Prints}
use Rattle.console.specs.PrintingLaws.{prints_more}
use Rattle.checkreport.proofs.explained.put_all_passed.Goals as goal

pub returns-in-Some : goal.returns-in-Some
returns-in-Some g c =
    let C = g.O.Console.contents in
    let F = g.O.Console.failures in
    let more = c.put_further_passed.ensures in (
      c.in-Some.first ∷ more.0,
      subst (Prints C F _ _) (passed_text_of c.in-Some.first more.0)
          (prints_more C F c.put_passed.ensures (prints_more C F more.1 c.put.ensures)),
    )

pub returns-in-None : goal.returns-in-None
returns-in-None g c = ([], c.put-in-None.ensures)
