use Rattle.std.proofs.Common.{ap, sym}
use Rattle.adlwrite.specs.Parts.{header_text}
use Rattle.devices.specs.AppendLaws.{nothing, said}
use Rattle.adlwrite.proofs.parts.HeaderSectionWritten.put.Goals as goal

pub returns-in-None : goal.returns-in-None
unfolding header_text
returns-in-None g c =
    said g.B.Bench c.args.file.now.name.now (ap (header_text c.args.self.now.0.now) (sym c.in-None.is))
    (nothing g.B.Bench c.args.file.now.name.now c.args.bench.now tt (g.met.B.Bench.only_now c.args.bench.now))
