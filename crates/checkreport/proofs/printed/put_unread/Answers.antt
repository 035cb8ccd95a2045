use Rattle.std.proofs.Common.{◌++◌, ◌∷◌, [], ap, false, subst}
use Rattle.serde_json.specs.Data.{Data, null}
use Rattle.checkreport.specs.Printed.{printed_text}
use Rattle.checkreport.specs.Explained.{explained_data}
use Rattle.checkreport.specs.Report.{refused_of}
use Rattle.console.specs.Printing.{Prints}
use Rattle.checkreport.proofs.printed.put_unread.Goals as goal

pub returns-clause-unread : goal.returns-clause-unread
returns-clause-unread g c = record {
  explained = explained_data c.args.explained;
  printed = subst (Prints g.O.Console.contents g.O.Console.failures _ _)
      (ap (λ (fault : Data). printed_text (refused_of (fault ∷ []) null false) ++ 10 ∷ []) c.of_list-fault.ensures)
      c.put_alone.ensures;
}
