use Rattle.std.proofs.Common.{List}
use Rattle.checkreport.specs.Parts.{after_commas, passed_text}
use Rattle.checkreport.specs.declared.explained.PassedLine.{PassedLine}
use Rattle.console.specs.Printing.{Prints}
use Rattle.checkreport.proofs.explained.put_further_passed.Given as goal

-- the lines so far are printed
abbrev pub invariant-lines : goal.invariant-lines
invariant-lines g l =
    (printed : List PassedLine)
    × Prints g.O.Console.contents g.O.Console.failures l.initial.out l.out (after_commas passed_text printed)
