use Rattle.std.proofs.Common.{◌≡◌, take, IsTrue}
use Rattle.std.specs.List.{flat_map}
use Rattle.passes.specs.Silent.{IsStill, silences_of}
use Rattle.passes.proofs.silences.ask_groups.Given as goal

-- `silent` has the flags of the groups before the index, and nothing has failed
abbrev pub invariant-loop-group : goal.invariant-loop-group
invariant-loop-group g l =
    IsStill g.P.Samples l.initial.samples l.samples
    × (IsTrue (g.P.Samples.honest l.initial.samples)
    → l.silent.items ≡ flat_map (silences_of (g.P.Samples.reading l.initial.samples))
    (take l.group-index l.group-items))
