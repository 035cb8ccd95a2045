use Rattle.std.proofs.Common.{refl}
use Rattle.markfile.specs.Format.{marks_name}
use Rattle.markfile.proofs.Moments.{torn_same, two_calls}
use Rattle.markfile.proofs.synced.write_synced.Goals as goal

pub returns-clause-moments : goal.returns-clause-moments
returns-clause-moments g c =
    two_calls g.B.Bench.moment g.B.Bench.left_since g.B.Bench.may_leave g.met.B.Bench.only_now c.args.bench.now
    c.write_at.new.self c.sync.new.self _ c.write_at.ensures.time c.sync.ensures.time
    (λ d left. (d, left, record { here = torn_same c.args.at _ (d marks_name); others = λ n apart. refl })) c.write_at.ensures.crash
    (λ d left. c.write_at.ensures.crash d (c.sync.ensures.crash d left))
