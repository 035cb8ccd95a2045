use Rattle.std.proofs.Common.{subst}
use Rattle.console.specs.Printing.{Prints}
use Rattle.console.specs.PrintingLaws.{prints_more}
use Rattle.checkreport.proofs.Parts.{index_parts}
use Rattle.checkreport.proofs.accepted.put_index_of.Goals as goal

pub returns : goal.returns
returns g c =
    let C = g.O.Console.contents in
    let F = g.O.Console.failures in
    subst (Prints C F _ _) (index_parts c.args.notices.now c.args.index.now c.args.sound.now)
    (prints_more C F c.put_counted.ensures
    (prints_more C F (rw (c.from.ensures, c.channels.ensures.channels) at c.put_counted-2.ensures)
    (prints_more C F (rw (c.from-2.ensures, c.bits.ensures, c.depth.ensures) at c.put_counted-3.ensures)
    (prints_more C F c.put.ensures
    (prints_more C F (rw (c.name.ensures) at c.put_string.ensures)
    (prints_more C F (rw (c.frames.ensures) at c.put_counted-4.ensures)
    (prints_more C F (rw (c.from-3.ensures) at c.put_counted-5.ensures)
    (prints_more C F c.put-2.ensures (prints_more C F c.put_kinds.ensures c.put-3.ensures)))))))))
