use Rattle.std.proofs.Common.{IsTrue, length, subst, sym}
use Rattle.std.specs.Prelude.{[]}
use Rattle.work_terms.specs.Disk.{IsPending, IsTornBehind, end_of}
use Rattle.markfile.specs.Format.{marks_name}
use Rattle.markfile.specs.Started.{IsAfter, LeavesUnstarted}
use Rattle.markfile.proofs.Moments.{and_then, weaker}
use Rattle.markfile.proofs.Unstarted.{created, gate_moments, gate_then}
use Rattle.markfile.proofs.fresh_marks.lay.Goals as goal

pub returns-in_err-create_synced-clause-any_moment : goal.returns-in_err-create_synced-clause-any_moment
returns-in_err-create_synced-clause-any_moment g c honest none =
    let o = g.B.Bench.may_leave c.args.bench.now in
    weaker g.B.Bench.moment g.B.Bench.left_since c.args.bench.now c.create_synced.new.bench (IsAfter o IsPending)
    (LeavesUnstarted o) (created o none) c.in_err-create_synced.ensures.moments

pub returns-in_err-append_synced-clause-any_moment : goal.returns-in_err-append_synced-clause-any_moment
returns-in_err-append_synced-clause-any_moment g c honest none =
    let made = c.in_ok-create_synced.ensures in
    gate_moments g.B.Bench c.args.bench.now c.create_synced.new.bench none made.crash (made.created honest)
    (made.durable honest) c.append_synced.new.bench made.moments c.in_err-append_synced.ensures.moments

pub returns-clause-any_moment : goal.returns-clause-any_moment
returns-clause-any_moment g c honest none =
    let start = c.args.bench.now in
    let one = c.create_synced.new.bench in
    let mid = c.append_synced.new.bench in
    let made = c.in_ok-create_synced.ensures in
    let gate = c.in_ok-append_synced.ensures in
    let still = subst IsTrue (sym made.only_writes.honest_same) honest in
    let shut = gate.appended still [] (made.created honest) in
    let step = IsTornBehind (end_of (g.B.Bench.stored mid marks_name)) (length c.args.rest.now) in
    and_then g.B.Bench.moment g.B.Bench.left_since start mid c.append_synced-2.new.bench
    (LeavesUnstarted (g.B.Bench.may_leave start)) (IsAfter (g.B.Bench.may_leave mid) step)
    (gate_then g.B.Bench start one none made.crash (made.created honest) (made.durable honest) mid gate.crash shut
    (gate.durable still) (length c.args.rest.now))
    (gate_moments g.B.Bench start one none made.crash (made.created honest) (made.durable honest) mid made.moments
    gate.moments)
    c.append_synced-2.ensures.moments

pub returns-clause-crash : goal.returns-clause-crash
returns-clause-crash g c honest none x left =
    let made = c.in_ok-create_synced.ensures in
    let gate = c.in_ok-append_synced.ensures in
    let still = subst IsTrue (sym made.only_writes.honest_same) honest in
    gate_then g.B.Bench c.args.bench.now c.create_synced.new.bench none made.crash
    (made.created honest) (made.durable honest) c.append_synced.new.bench gate.crash (gate.appended still [] (made.created honest))
    (gate.durable still) (length c.args.rest.now) x (c.append_synced-2.ensures.crash x left)
