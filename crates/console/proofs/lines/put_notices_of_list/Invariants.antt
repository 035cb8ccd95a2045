use Rattle.std.proofs.Common.{take}
use Rattle.console.specs.Lines.{notices_of_list}
use Rattle.console.specs.Printing.{Prints}
use Rattle.console.proofs.lines.put_notices_of_list.Given as goal

abbrev pub invariant-loop-notice : goal.invariant-loop-notice
invariant-loop-notice g l =
    Prints g.C.Console.contents g.C.Console.failures l.initial.console l.console
    (notices_of_list l.fn.list (take l.notice-index l.notices))
