use Rattle.std.proofs.Common.{take}
use Rattle.checkreport.specs.Parts.{after_commas, index_text}
use Rattle.console.specs.Printing.{Prints}
use Rattle.checkreport.proofs.accepted.put_further_indexes.Given as goal

-- the indexes so far are printed
abbrev pub invariant-loop-index : goal.invariant-loop-index
invariant-loop-index g l =
    Prints g.O.Console.contents g.O.Console.failures l.initial.out l.out
    (after_commas (index_text l.sounds l.notices) (take l.index-index l.indexes))
