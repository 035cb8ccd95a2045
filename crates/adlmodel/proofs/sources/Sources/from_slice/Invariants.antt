use Rattle.std.proofs.Common.{◌≡◌, take}
use Rattle.adlmodel.proofs.sources.Sources.from_slice.Given as goal

abbrev pub invariant-loop-source : goal.invariant-loop-source
invariant-loop-source l = l.copies ≡ take l.source-index l.fn.sources
