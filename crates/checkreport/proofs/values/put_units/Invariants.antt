use Rattle.std.proofs.Common.{take}
use Rattle.std.specs.List.{flat_map}
use Rattle.console.specs.Printing.{Prints}
use Rattle.checkreport.specs.Printed.{unit_escape}
use Rattle.checkreport.proofs.values.put_units.Given as goal

abbrev pub invariant-loop-unit : goal.invariant-loop-unit
invariant-loop-unit g l =
    Prints g.O.Console.contents g.O.Console.failures l.initial.out l.out
    (flat_map unit_escape (take l.unit-index l.units))
