use Rattle.std.proofs.Common.{take}
use Rattle.checkreport.specs.Parts.{after_commas, notice_text}
use Rattle.console.specs.Printing.{Prints}
use Rattle.checkreport.proofs.accepted.put_further_notices.Given as goal

-- the notices so far are printed
abbrev pub invariant-loop-notice : goal.invariant-loop-notice
invariant-loop-notice g l =
    Prints g.O.Console.contents g.O.Console.failures l.initial.out l.out
    (after_commas notice_text (take l.notice-index l.notices))
