use Rattle.std.proofs.Common.{refl}
use Rattle.devices.specs.ViewLaws.{writes_of}
use Rattle.execution.proofs.Firsts.{raised}
use Rattle.execution.proofs.Outcomes.{laid-then, not-laid}
use Rattle.execution.proofs.course.execute.Goals as goal

pub returns-in-Err-clause-executed : goal.returns-in-Err-clause-executed
returns-in-Err-clause-executed g c = rw c.from.ensures (not-laid c.in-Err.ensures.same c.in-Err.fault
    c.in-Err.ensures.lays_out (writes_of g.B.Bench c.in-Err.ensures.only_writes) (record {
      rose = raised c.in-Err.ensures.only_writes.cause tt;
      failed = c.in-Err.ensures.only_writes.failed_there tt;
    }) refl)

pub returns-clause-executed : goal.returns-clause-executed
returns-clause-executed g c = laid-then c.in-Ok.ensures.lays_out
    (writes_of g.B.Bench c.in-Ok.ensures.only_writes) (c.in-Ok.ensures.only_writes.cause.left tt) c.requires.whole
    (rw c.in-Ok.ensures.same at c.resume.ensures.resumed)
