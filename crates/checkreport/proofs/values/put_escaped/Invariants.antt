use Rattle.std.proofs.Common.{take}
use Rattle.std.specs.List.{flat_map}
use Rattle.json.specs.Print.{escape_byte}
use Rattle.console.specs.Printing.{Prints}
use Rattle.checkreport.proofs.values.put_escaped.Given as goal

-- the bytes so far are printed
abbrev pub invariant-loop-byte : goal.invariant-loop-byte
invariant-loop-byte g l =
    Prints g.O.Console.contents g.O.Console.failures l.initial.out l.out
    (flat_map escape_byte (take l.byte-index l.bytes))
