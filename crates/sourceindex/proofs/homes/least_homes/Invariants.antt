use Rattle.std.proofs.Common.{◌≡◌, length, take}
use Rattle.sourceindex.specs.Homes.{AreLeast}
use Rattle.sourceindex.proofs.homes.least_homes.Given as goal

-- The homes according to the indexes so far.
abbrev pub invariant-loop-i : goal.invariant-loop-i
invariant-loop-i l = record {
  least : AreLeast l.homes.items (take l.i l.indexes);
  count : length l.homes.items ≡ l.files;
}
