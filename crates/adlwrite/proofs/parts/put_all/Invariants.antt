use Rattle.std.proofs.Common.{take, Ok}
use Rattle.std.specs.Prelude.{flat_map}
use Rattle.devices.specs.Frame.{Appends}
use Rattle.adlwrite.proofs.parts.put_all.Given as goal

-- The elements before the current position.
abbrev pub invariant-loop-one : goal.invariant-loop-one
invariant-loop-one g l =
    Appends g.B.Bench l.file.name.now (flat_map (g.W.Written.text l.file.project.now) (take l.one-index l.all)) l.initial.bench l.bench (Ok tt)
