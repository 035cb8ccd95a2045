use Rattle.std.specs.List.{flat_map}
use Rattle.checkreport.specs.Printed.{printed_in_string}
use Rattle.console.specs.Printing.{Prints}
use Rattle.checkreport.proofs.values.put_characters.Given as goal

abbrev pub invariant-loop-character : goal.invariant-loop-character
invariant-loop-character g l =
    Prints g.O.Console.contents g.O.Console.failures l.initial.out l.out
    (flat_map printed_in_string l.yielded)
