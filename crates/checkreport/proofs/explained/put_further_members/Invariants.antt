use Rattle.std.proofs.Common.{take}
use Rattle.checkreport.specs.Parts.{after_commas, member_text}
use Rattle.console.specs.Printing.{Prints}
use Rattle.checkreport.proofs.explained.put_further_members.Given as goal

-- the members so far are printed
abbrev pub invariant-loop-member : goal.invariant-loop-member
invariant-loop-member g l =
    Prints g.O.Console.contents g.O.Console.failures l.initial.out l.out
    (after_commas member_text (take l.member-index l.members))
