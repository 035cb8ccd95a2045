use Rattle.std.proofs.Common.{◌≡◌, take}
use Rattle.std.specs.List.{flat_map}
use Rattle.digests.specs.Sums.{medium_line}
use Rattle.digests.proofs.sums.sums_text.Given as goal

-- the lines of the media before the index
abbrev pub invariant-loop-medium : goal.invariant-loop-medium
invariant-loop-medium l = l.sums.items ≡ flat_map medium_line (take l.medium-index l.media)
