use Rattle.std.proofs.Common.{◌≡◌, ◌++◌, map, take}
use Rattle.serde_json.specs.View.{view}
use Rattle.report_terms.specs.Report.{notice_data}
use Rattle.provenance.proofs.notices.push_notices.Given as goal

-- the values of the notices before the index
abbrev pub invariant-loop-notice : goal.invariant-loop-notice
invariant-loop-notice l =
    map view l.values.items ≡ map view l.initial.values.items ++ map notice_data (take l.notice-index l.notices)
