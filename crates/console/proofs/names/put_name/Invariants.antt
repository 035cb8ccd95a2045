use Rattle.std.specs.List.{flat_map}
use Rattle.console.specs.Lines.{printed_character}
use Rattle.console.specs.Printing.{Prints}
use Rattle.console.proofs.names.put_name.Given as goal

abbrev pub invariant-loop-character : goal.invariant-loop-character
invariant-loop-character g l =
    Prints g.C.Console.contents g.C.Console.failures l.initial.console l.console
    (flat_map printed_character l.yielded)
