use Rattle.std.proofs.Common.{length, ap, arith}
use Rattle.sound_terms.specs.Homes.{kept_of, place_by}
use Rattle.mediaset.proofs.Covered.{covered}
use Rattle.mediaset.proofs.Indexable.{indexable}
use Rattle.mediaset.proofs.OneList.{one_list}
use Rattle.mediaset.proofs.kept.Runs.kept.Goals as goal

pub invariant_of-result : goal.invariant_of-result
invariant_of-result c =
    indexable c.args.intervals.now c.args.homes c.args.handle c.in_ok-runs.runs.items c.in_ok-runs.ensures.homes
    c.in_ok-runs.ensures.kept (omega (arith, c.len.ensures, c.if-len-gt-MOST_RUNS.false))

pub returns-clause-sound : goal.returns-clause-sound
returns-clause-sound c =
    indexable c.args.intervals.now c.args.homes c.args.handle c.in_ok-runs.runs.items c.in_ok-runs.ensures.homes
    c.in_ok-runs.ensures.kept (omega (arith, c.len.ensures, c.if-len-gt-MOST_RUNS.false))

pub returns-then-len-gt-MOST_RUNS-clause-too_many : goal.returns-then-len-gt-MOST_RUNS-clause-too_many
returns-then-len-gt-MOST_RUNS-clause-too_many c = λ told runs are.
    let same =
    one_list (kept_of c.args.intervals.now c.args.homes c.args.handle) (place_by c.args.homes)
    runs c.in_ok-runs.runs.items are
    c.in_ok-runs.ensures.kept in
    omega (arith, ap length same, c.len.ensures, c.if-len-gt-MOST_RUNS.true)

pub returns-clause-covers : goal.returns-clause-covers
returns-clause-covers c = λ home file channel frame read.
    covered c.args.homes c.args.handle c.args.intervals.now c.in_ok-runs.runs.items c.in_ok-runs.ensures.kept home
    file channel frame read

pub returns-clause-one : goal.returns-clause-one
returns-clause-one c = λ runs are.
    one_list (kept_of c.args.intervals.now c.args.homes c.args.handle) (place_by c.args.homes)
    runs c.in_ok-runs.runs.items are
    c.in_ok-runs.ensures.kept
