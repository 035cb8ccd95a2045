use Rattle.devices.specs.AppendLaws.{and_then, nothing, said, stopped}
use Rattle.adlwrite.proofs.OnePart.{all_but, one_more}
use Rattle.adlwrite.proofs.parts.put_all.Goals as goal

pub loop-one-init : goal.loop-one-init
loop-one-init g c = nothing g.B.Bench c.args.file.now.name.now c.args.bench.now tt (g.met.B.Bench.only_now c.args.bench.now)

pub returns-in_err-put : goal.returns-in_err-put
returns-in_err-put g c =
    said g.B.Bench c.args.file.now.name.now (all_but (g.W.Written.text c.args.file.now.project.now) c.args.all.now
    c.loop-one.one-index _ c.loop-one-test.true c.one-item.is)
    (and_then g.B.Bench c.args.file.now.name.now c.loop-one.invariant
    (stopped g.B.Bench c.args.file.now.name.now _ _ c.from_residual.result c.from_residual.ensures.1 c.in_err-put.ensures))

pub loop-one-preserved : goal.loop-one-preserved
loop-one-preserved g c =
    said g.B.Bench c.args.file.now.name.now (one_more (g.W.Written.text c.args.file.now.project.now) c.args.all.now
    c.loop-one.one-index _ c.loop-one-test.true c.one-item.is)
    (and_then g.B.Bench c.args.file.now.name.now c.loop-one.invariant c.in_ok-put.ensures)
