use Rattle.std.proofs.Common.{subst}
use Rattle.checkreport.proofs.Parts.{room_parts}
use Rattle.console.specs.Printing.{Prints}
use Rattle.console.specs.PrintingLaws.{prints_more}
use Rattle.checkreport.proofs.explained.put_room.Goals as goal

pub returns : goal.returns
returns g c =
    let C = g.O.Console.contents in
    let F = g.O.Console.failures in
    subst (Prints C F _ _) (room_parts c.args.room)
    (prints_more C F c.put_found.ensures (prints_more C F c.put_found-2.ensures c.put.ensures))
