use Rattle.std.proofs.Common.{take}
use Rattle.std.specs.List.{flat_map}
use Rattle.percent_encoding.specs.Percent.{percent_encode_byte}
use Rattle.console.specs.Printing.{Prints}
use Rattle.console.proofs.names.put_escapes.Given as goal

abbrev pub invariant-loop-byte : goal.invariant-loop-byte
invariant-loop-byte g l =
    Prints g.C.Console.contents g.C.Console.failures l.initial.console l.console
    (flat_map percent_encode_byte (take l.byte-index l.bytes))
