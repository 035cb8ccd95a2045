use Rattle.std.proofs.Common.{◌++◌, ◌∷◌, [], subst}
use Rattle.checkreport.proofs.Parts.{one_more_passed}
use Rattle.console.specs.Printing.{Prints}
use Rattle.console.specs.PrintingLaws.{prints_more}
use Rattle.checkreport.proofs.explained.put_further_passed.Goals as goal

pub lines-preserved : goal.lines-preserved
lines-preserved g c = (
  c.lines.invariant.0 ++ c.in-Some.passed ∷ [],
  subst (Prints g.O.Console.contents g.O.Console.failures _ _) (one_more_passed c.lines.invariant.0 _)
      (prints_more g.O.Console.contents g.O.Console.failures c.lines.invariant.1 c.put_next_passed.ensures),
)
