use Rattle.std.proofs.Common.{◌≡◌, map, take}
use Rattle.serde_json.specs.View.{view}
use Rattle.lineage.specs.Groups.{seen}
use Rattle.provenance.specs.Report.{group_data}
use Rattle.provenance.proofs.entries.group_values.Given as goal

-- the values of the groups before the index
abbrev pub invariant-loop-group : goal.invariant-loop-group
invariant-loop-group l = map view l.values.items ≡ map group_data (map seen (take l.group-index l.groups))
