use Rattle.std.proofs.Common.{◌≡◌, map, take}
use Rattle.serde_json.specs.View.{view}
use Rattle.provenance.specs.Report.{medium_told}
use Rattle.provenance.proofs.media.media_values.Given as goal

-- the values of the media before the index
abbrev pub invariant-loop-medium : goal.invariant-loop-medium
invariant-loop-medium l =
    map view l.values.items
    ≡ map (medium_told l.sources l.indexes l.sounds l.homes) (take l.medium-index l.media)
