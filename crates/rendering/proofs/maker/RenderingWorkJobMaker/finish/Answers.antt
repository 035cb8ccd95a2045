use Rattle.rendering.proofs.Both.{finishes_by}
use Rattle.rendering.proofs.Calls.{untouched_by, untouched_then}
use Rattle.rendering.proofs.maker.RenderingWorkJobMaker.finish.Goals as goal

pub returns-in-Err-clause-finishes : goal.returns-in-Err-clause-finishes
returns-in-Err-clause-finishes g c = let one = c.in-Err.ensures in
    finishes_by g.B.Bench c.args.self.now _ (untouched_by g.B.Bench (g.met.B.Bench.only_now c.args.bench.now) one.time
    one.only_reads.same one.crash) (λ honest. tt)

pub returns-in-Ok-sync-clause-finishes : goal.returns-in-Ok-sync-clause-finishes
returns-in-Ok-sync-clause-finishes g c = let one = c.in-Ok.ensures in let two = c.in-Ok-sync.ensures in
    finishes_by g.B.Bench c.args.self.now _ (untouched_then g.B.Bench
    (untouched_by g.B.Bench (g.met.B.Bench.only_now c.args.bench.now) one.time one.only_reads.same one.crash)
    (untouched_by g.B.Bench (g.met.B.Bench.only_now c.sync.new.self) two.time two.only_reads.same two.crash))
    (λ honest. (
      λ x left. rw two.only_reads.same (one.durable honest x (two.crash x left)),
      two.durable (rw one.only_reads.honest_same honest),
    ))

pub returns-in-Err-sync-clause-finishes : goal.returns-in-Err-sync-clause-finishes
returns-in-Err-sync-clause-finishes g c = let one = c.in-Ok.ensures in let two = c.in-Err-sync.ensures in
    finishes_by g.B.Bench c.args.self.now _ (untouched_then g.B.Bench
    (untouched_by g.B.Bench (g.met.B.Bench.only_now c.args.bench.now) one.time one.only_reads.same one.crash)
    (untouched_by g.B.Bench (g.met.B.Bench.only_now c.sync.new.self) two.time two.only_reads.same two.crash))
    (λ honest. tt)
