use Rattle.rendering.proofs.Jobs.{names_apart}
use Rattle.rendering.proofs.Stretches.{placed-broken, placed-marked, placed-unwritten}
use Rattle.rendering.proofs.placement.place_marked.Goals as goal

pub returns-in-Err-clause-marks : goal.returns-in-Err-clause-marks
returns-in-Err-clause-marks g c honest marked sources done job w s off all run = placed-unwritten g.B.Bench marked
    sources done job s off run c.in-Err.ensures.writes (c.in-Err.ensures.writes.unsure honest)

pub returns-in-Ok-mark_all-clause-marks : goal.returns-in-Ok-mark_all-clause-marks
returns-in-Ok-mark_all-clause-marks g c honest marked sources done job w s off all run =
    let still = rw (← c.in-Ok.ensures.writes.only_writes.honest_same) at honest in
    let set = c.in-Ok-mark_all.ensures in
    placed-marked g.B.Bench marked sources done job s off run c.in-Ok.ensures.writes w all _
    (c.in-Ok.ensures.writes.written honest) (c.in-Ok.ensures.durable honest) (set.any_moment still marked.run run.marks)
    (set.crash still marked.run run.marks) (set.only_writes.others still _ names_apart)
    (set.marked still marked.run run.marks)

pub returns-in-Err-mark_all-clause-marks : goal.returns-in-Err-mark_all-clause-marks
returns-in-Err-mark_all-clause-marks g c honest marked sources done job w s off all run =
    let still = rw (← c.in-Ok.ensures.writes.only_writes.honest_same) at honest in
    let set = c.in-Err-mark_all.ensures in
    placed-broken g.B.Bench marked sources done job s off run c.in-Ok.ensures.writes w all _
    (c.in-Ok.ensures.writes.written honest) (c.in-Ok.ensures.durable honest) (set.any_moment still marked.run run.marks)
    (set.crash still marked.run run.marks)
