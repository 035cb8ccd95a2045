use Rattle.devices.specs.AppendLaws.{nothing, said}
use Rattle.adlwrite.proofs.PartsText.{fade_of_parts, no_fade}
use Rattle.adlwrite.proofs.parts.put_fade.Goals as goal

pub returns-then-get-eq0 : goal.returns-then-get-eq0
returns-then-get-eq0 g c =
    said g.B.Bench c.args.file.now.name.now
    (no_fade c.args.file.now.project.now c.args.keyword.now c.get.result c.args.length c.if-get-eq0.true c.get.ensures.samples)
    (nothing g.B.Bench c.args.file.now.name.now c.args.bench.now tt (g.met.B.Bench.only_now c.args.bench.now))

pub returns : goal.returns
returns g c =
    said g.B.Bench c.args.file.now.name.now
    (fade_of_parts c.args.file.now.project.now c.args.keyword.now c.time_in-time.result.now c.get.result c.args.length
    c.if-get-eq0.false c.get.ensures.samples c.time_in-time.ensures)
    c.put_all.ensures
