use Rattle.devices.specs.AppendLaws.{said}
use Rattle.adlwrite.proofs.PartsText.{source_of_parts}
use Rattle.adlwrite.proofs.parts.SourceWritten.put.Goals as goal

pub returns : goal.returns
returns g c =
    said g.B.Bench c.args.file.now.name.now (source_of_parts c.args.file.now.project.now c.args.self.now _ _ _ _ _
    c.number.ensures c.url.ensures c.uid.ensures c.start.ensures c.length.ensures) c.put_all.ensures
