use Rattle.std.proofs.Common.{refl, inl}
use Rattle.markfile.proofs.Moments.{two_calls}
use Rattle.markfile.proofs.synced.create_synced.Goals as goal

pub returns-clause-moments : goal.returns-clause-moments
returns-clause-moments g c =
    two_calls g.B.Bench.moment g.B.Bench.left_since g.B.Bench.may_leave g.met.B.Bench.only_now c.args.bench.now
    c.create.new.self c.sync.new.self _ c.create.ensures.time c.sync.ensures.time
    (λ d left. (d, left, record { here = inl refl; others = λ n apart. refl })) c.create.ensures.crash
    (λ d left. c.create.ensures.crash d (c.sync.ensures.crash d left))
