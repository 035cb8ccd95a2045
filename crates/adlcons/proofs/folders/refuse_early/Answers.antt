use Rattle.console.specs.PrintingLaws.{prints_more}
use Rattle.adlcons.proofs.folders.refuse_early.Goals as goal

pub returns-clause-printed : goal.returns-clause-printed
returns-clause-printed g c =
    prints_more g.O.Console.contents g.O.Console.failures c.put_refusal.ensures c.end_line.ensures
