use Rattle.std.proofs.Common.{◌∙◌}
use Rattle.devices.specs.AppendLaws.{said}
use Rattle.adlwrite.proofs.PartsText.{list_is_its_text}
use Rattle.adlmodel.specs.Header.{header_view}
use Rattle.adlwrite.proofs.parts.put_list.Goals as goal

pub returns-clause-appends : goal.returns-clause-appends
returns-clause-appends g c =
    said g.B.Bench c.args.name.now
    (list_is_its_text c.args.project.now (header_view c.header-header.result.now) c.as_slice.result.now c.events.result.now
    c.header-header.ensures.header (c.as_slice.ensures.sources ∙ c.sources.ensures.sources) c.events.ensures.events)
    c.put_parts.ensures.appends
