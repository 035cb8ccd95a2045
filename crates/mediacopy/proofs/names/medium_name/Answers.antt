use Rattle.std.proofs.Common.{append_assoc, rules}
use Rattle.list_terms.specs.Renewed.{media_name}
use Rattle.mediacopy.proofs.names.medium_name.Goals as goal

pub returns : goal.returns
unfolding media_name
returns c = search (rules, append_assoc)
