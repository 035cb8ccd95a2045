use Rattle.std.proofs.Common.{◌++◌, length, map, subst}
use Rattle.list_terms.specs.Heard.{sounds_of}
use Rattle.report_terms.specs.Report.{notice_data}
use Rattle.checkreport.specs.Report.{index_data}
use Rattle.console.specs.Printing.{Prints}
use Rattle.console.specs.PrintingLaws.{prints_more}
use Rattle.checkreport.proofs.Parts.{accepted_parts}
use Rattle.checkreport.proofs.accepted.put_report.Goals as goal

pub returns : goal.returns
returns g c =
    let project = c.args.checked.now.project in
    let bound = c.args.checked.now.bound in
    let C = g.O.Console.contents in
    let F = g.O.Console.failures in
    let beside = c.put_beside.ensures in (
      beside.0,
      subst (Prints C F _ _)
          (accepted_parts project.rate (length project.events)
          (map (index_data (sounds_of bound) bound.notices) bound.indexes)
          (map notice_data (project.notices ++ bound.notices)) beside.0)
          (prints_more C F (rw (c.events.ensures.events, c.project-project.ensures.lent) at c.put_counted.ensures)
          (prints_more C F c.put_counted-2.ensures
          (prints_more C F c.put.ensures
          (prints_more C F (rw (c.indexes.ensures.indexes, c.sounds.ensures.sounds, c.notices.ensures, c.bound-bound.ensures)
          at c.put_indexes.ensures)
          (prints_more C F beside.1
          (prints_more C F c.put-2.ensures
          (prints_more C F (rw (c.notices-2.ensures, c.notices-3.ensures, c.project-project.ensures.lent, c.bound-bound.ensures)
          at c.put_notices.ensures)
          (prints_more C F (rw (
            c.from-rate.ensures,
            c.frames_per_second.ensures.frames,
            c.rate.ensures.rate,
            c.project-project.ensures.lent,
          ) at c.put_counted-3.ensures) c.put-3.ensures)))))))),
    )
