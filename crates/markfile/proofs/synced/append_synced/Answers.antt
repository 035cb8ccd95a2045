use Rattle.std.proofs.Common.{refl}
use Rattle.markfile.specs.Format.{marks_name}
use Rattle.markfile.proofs.Moments.{end_same, two_calls}
use Rattle.markfile.proofs.synced.append_synced.Goals as goal

pub returns-clause-moments : goal.returns-clause-moments
returns-clause-moments g c =
    two_calls g.B.Bench.moment g.B.Bench.left_since g.B.Bench.may_leave g.met.B.Bench.only_now c.args.bench.now
    c.append.new.self c.sync.new.self _ c.append.ensures.time c.sync.ensures.time
    (λ d left. (d, left, record { here = end_same _ _ (d marks_name); others = λ n apart. refl }))
    c.append.ensures.crash (λ d left. c.append.ensures.crash d (c.sync.ensures.crash d left))
