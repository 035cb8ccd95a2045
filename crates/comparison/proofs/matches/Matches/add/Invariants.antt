use Rattle.std.specs.List.{All}
use Rattle.sound_terms.specs.Mix.{Reading}
use Rattle.comparison.specs.Matched.{AreSameFrames}
use Rattle.comparison.proofs.matches.Matches.add.Given as goal

-- the cached ranges and the merged range are equal ranges of the files
abbrev pub invariant-loop-k : goal.invariant-loop-k
invariant-loop-k l = (reading other : Reading) → All (AreSameFrames reading other) l.fn.self
    → AreSameFrames reading other l.fn.more
    → (All (AreSameFrames reading other) l.self-inside.kept) × AreSameFrames reading other l.whole
