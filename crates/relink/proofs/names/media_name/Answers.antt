use Rattle.std.proofs.Common.{rules}
use Rattle.list_terms.specs.MediaNames.{name_printed}
use Rattle.relink.proofs.names.media_name.Goals as goal

pub returns : goal.returns
returns c = search (rules, name_printed)
