use Rattle.adlmodel.specs.Header.{header_view}
use Rattle.devices.specs.AppendLaws.{said}
use Rattle.adlwrite.proofs.PartsText.{head_of_parts}
use Rattle.adlwrite.proofs.parts.put_head.Goals as goal

pub returns : goal.returns
returns g c =
    said g.B.Bench c.args.file.now.name.now (head_of_parts (header_view c.args.header.now)) c.put_all.ensures
