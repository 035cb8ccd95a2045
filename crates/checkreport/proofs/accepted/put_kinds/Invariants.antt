use Rattle.std.proofs.Common.{◌≡◌, false, take}
use Rattle.std.specs.List.{list_any}
use Rattle.checkreport.specs.Parts.{listed}
use Rattle.checkreport.specs.Report.{is_of_index, kinds_of}
use Rattle.console.specs.Printing.{Prints}
use Rattle.checkreport.proofs.accepted.put_kinds.Given as goal

-- the numbers so far are printed, and the flag says whether there is one
abbrev pub invariant-loop-notice : goal.invariant-loop-notice
invariant-loop-notice g l =
    Prints g.O.Console.contents g.O.Console.failures l.initial.out l.out
    (listed false (kinds_of l.fn.index (take l.notice-index l.notices)))
    × (l.is_later ≡ list_any (is_of_index l.fn.index) (take l.notice-index l.notices))
