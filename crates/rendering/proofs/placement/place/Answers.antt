use Rattle.rendering.proofs.Stretches.{placed-unmarked, placed-unwritten}
use Rattle.rendering.proofs.placement.place.Goals as goal

pub returns-in-Ok-clause-marks : goal.returns-in-Ok-clause-marks
returns-in-Ok-clause-marks g c honest marked sources done job s off more run = placed-unmarked g.B.Bench marked sources
    done job s off run c.in-Ok.ensures.writes (c.in-Ok.ensures.writes.written honest) more

pub returns-in-Err-clause-marks : goal.returns-in-Err-clause-marks
returns-in-Err-clause-marks g c honest marked sources done job s off more run = placed-unwritten g.B.Bench marked sources
    done job s off run c.in-Err.ensures.writes (c.in-Err.ensures.writes.unsure honest)
