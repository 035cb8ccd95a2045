use Rattle.std.proofs.Common.{take}
use Rattle.console.specs.Lines.{notices_text}
use Rattle.console.specs.Printing.{Prints}
use Rattle.console.proofs.lines.put_notices.Given as goal

abbrev pub invariant-loop-notice : goal.invariant-loop-notice
invariant-loop-notice g l =
    Prints g.C.Console.contents g.C.Console.failures l.initial.console l.console
    (notices_text (take l.notice-index l.notices))
