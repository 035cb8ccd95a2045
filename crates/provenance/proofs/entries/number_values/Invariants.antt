use Rattle.std.proofs.Common.{◌≡◌, map, take}
use Rattle.serde_json.specs.View.{view}
use Rattle.report_terms.specs.Report.{count}
use Rattle.provenance.proofs.entries.number_values.Given as goal

-- the values of the numbers before the index
abbrev pub invariant-loop-number : goal.invariant-loop-number
invariant-loop-number l = map view l.values.items ≡ map count (take l.number-index l.numbers)
