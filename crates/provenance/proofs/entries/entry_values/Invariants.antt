use Rattle.std.proofs.Common.{◌≡◌, map, take}
use Rattle.serde_json.specs.View.{view}
use Rattle.provenance.specs.Report.{entry_data}
use Rattle.provenance.proofs.entries.entry_values.Given as goal

-- the values of the entries before the index
abbrev pub invariant-loop-entry : goal.invariant-loop-entry
invariant-loop-entry l = map view l.values.items ≡ map entry_data (take l.entry-index l.entries)
