use Rattle.std.proofs.Common.{◌≡◌, take}
use Rattle.list_terms.specs.BoundHomes.{home_from}
use Rattle.sourceindex.proofs.homes.home_among.Given as goal

-- The home according to the indexes so far.
abbrev pub invariant-loop-i : goal.invariant-loop-i
invariant-loop-i l = l.home ≡ home_from 0 (take l.i l.indexes) l.file
