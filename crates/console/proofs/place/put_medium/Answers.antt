use Rattle.std.proofs.Common.{◌≡◌, ◌++◌, ◌-◌, ℕ, ap, codes, length, subst, sym}
use Rattle.std.specs.Prelude.{decimal, replicate}
use Rattle.list_terms.specs.Renewed.{media_name}
use Rattle.console.specs.Lines.{named}
use Rattle.console.specs.Printing.{Prints}
use Rattle.console.proofs.Media.{printed_name-medium}
use Rattle.console.specs.PrintingLaws.{prints_more}
use Rattle.console.proofs.place.put_medium.Goals as goal

-- the parts of the name, joined
parts : (number : ℕ)
    → codes " at file M" ++ (replicate (5 - length (decimal number)) 48 ++ (decimal number ++ codes ".wav"))
    ≡ named (codes " at file ") (media_name number)
unfolding media_name
parts number = ap (λ name. codes " at file " ++ name) (sym (printed_name-medium number))

pub returns : goal.returns
returns g c =
    subst (Prints g.C.Console.contents g.C.Console.failures _ _) (parts c.args.number)
    (prints_more g.C.Console.contents g.C.Console.failures c.put.ensures c.put_digits.ensures)
