use Rattle.std.proofs.Common.{◌≡◌, ◌++◌, take, IsTrue}
use Rattle.passes.specs.Silent.{IsStill, silences_of}
use Rattle.passes.proofs.silences.push_silences.Given as goal

-- `silent` has the flags of the pieces before the index, and nothing has failed
abbrev pub invariant-loop-piece : goal.invariant-loop-piece
invariant-loop-piece g l =
    IsStill g.P.Samples l.initial.samples l.samples
    × (IsTrue (g.P.Samples.honest l.initial.samples)
    → l.silent.items ≡ l.initial.silent.items ++ silences_of (g.P.Samples.reading l.initial.samples)
    (take l.piece-index l.pieces))
