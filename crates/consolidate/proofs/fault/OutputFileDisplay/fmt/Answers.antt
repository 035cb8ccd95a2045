use Rattle.std.proofs.Common.{rules}
use Rattle.list_terms.specs.MediaNames.{name_printed}
use Rattle.consolidate.proofs.fault.OutputFileDisplay.fmt.Goals as goal

pub returns-in-Medium-clause-writes : goal.returns-in-Medium-clause-writes
returns-in-Medium-clause-writes g c = search (rules, name_printed)
