use Rattle.devices.specs.AppendLaws.{said}
use Rattle.adlwrite.proofs.PartsText.{event_of_parts}
use Rattle.adlwrite.proofs.parts.EventWritten.put.Goals as goal

pub returns : goal.returns
returns g c =
    said g.B.Bench c.args.file.now.name.now (event_of_parts c.args.file.now.project.now c.args.self.now) c.put_all.ensures
