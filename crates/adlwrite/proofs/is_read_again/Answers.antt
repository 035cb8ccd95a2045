use Rattle.adlwrite.proofs.RoundTrip.{text_value-text_of_project}
use Rattle.adlwrite.proofs.is_read_again.Goals as goal

pub returns : goal.returns
returns c = text_value-text_of_project c.args.project.now c.header.ensures.whole
