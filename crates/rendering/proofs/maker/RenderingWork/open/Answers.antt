use Rattle.std.proofs.Common.{◌∙◌, rules}
use Rattle.rendering.proofs.Works.{filled_running, goes_on_running, reopened_as, same_run}
use Rattle.rendering.proofs.maker.RenderingWork.open.Goals as goal

pub invariant_of-self : goal.invariant_of-self
invariant_of-self g c = rw c.take_up.ensures (
  c.in-Ok-cut_by.ensures.whole,
  same_run _ c.self.invariant.1,
  (c.self.invariant.2.0, c.in-Ok-unclipped.ensures ∙ search rules),
)

pub returns-clause-running : goal.returns-clause-running
returns-clause-running g c honest sources left done agrees =
    let cut = c.in-Ok-cut_by.ensures in
    rw (c.take_up.ensures, c.in-Ok.ensures.only_reads.same) (goes_on_running sources cut.whole c.self.invariant.1
    (rw c.in-Some.is at (c.in-Ok.ensures.whole honest)) (rw (← c.self.view_is) at left) c.in-Ok.ensures.untouched.crash
    (rw c.in-Ok.ensures.only_reads.same at (c.in-Ok.ensures.settled honest))
    (rw c.in-Ok.ensures.only_reads.same at (g.met.B.Bench.reads_now c.open_marks.new.bench
    (rw c.in-Ok.ensures.only_reads.honest_same honest)))
    (rw c.as_slice.ensures.value at cut.cut.uniform) done (rw c.take_up.ensures at agrees))

pub returns-clause-filled : goal.returns-clause-filled
returns-clause-filled g c honest sources left done agrees = filled_running (record {
  work = c.take_up.new.self;
  run = c.self.inside.run;
  clips = c.in-Ok-unclipped.clips.items;
}) sources (invariant_of-self g c).0 (returns-clause-running g c honest sources left done agrees)

-- ---- its blocks are cut anew, or as they were

pub returns-in-Err-clause-reopened : goal.returns-in-Err-clause-reopened
returns-in-Err-clause-reopened g c = rw (← c.self.view_is) (reopened_as c.self.invariant.1 c.self.invariant.0)

pub returns-in_default-clause-reopened : goal.returns-in_default-clause-reopened
returns-in_default-clause-reopened g c = rw (← c.self.view_is) (reopened_as c.self.invariant.1 c.self.invariant.0)

pub returns-in-Err-cut_by-clause-reopened : goal.returns-in-Err-cut_by-clause-reopened
returns-in-Err-cut_by-clause-reopened g c = rw (← c.self.view_is) (reopened_as c.self.invariant.1 c.self.invariant.0)

pub returns-in-Err-unclipped-clause-reopened : goal.returns-in-Err-unclipped-clause-reopened
returns-in-Err-unclipped-clause-reopened g c = rw (← c.self.view_is) (reopened_as c.self.invariant.1 c.self.invariant.0)

pub returns-clause-reopened : goal.returns-clause-reopened
returns-clause-reopened g c = rw (← c.self.view_is, c.take_up.ensures)
    (reopened_as c.self.invariant.1 c.in-Ok-cut_by.ensures.whole)
