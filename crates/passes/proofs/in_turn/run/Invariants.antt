use Rattle.std.proofs.Common.{◌≡◌, IsTrue}
use Rattle.std.specs.Vec.Iter.{into_iter_items}
use Rattle.passes.specs.Left.{IsLeft}
use Rattle.passes.specs.Silent.{IsStill}
use Rattle.passes.proofs.in_turn.run.Given as goal

-- `intervals` is the intermediate result of the passes so far, and nothing has failed
abbrev pub invariant-loop-pass : goal.invariant-loop-pass
invariant-loop-pass g l = record {
  still : IsStill g.P.Samples l.fn.samples l.samples;
  left : IsLeft (g.P.Samples.reading l.fn.samples) (IsTrue (g.P.Samples.honest l.fn.samples))
      (l.samples ≡ l.fn.samples)
      (λ pass. (goal.Pass-dyn g (pass.vtable, pass.value)).looking pass.value)
      (λ pass. (goal.Pass-dyn g (pass.vtable, pass.value)).gives pass.value)
      l.fn.passes.items (into_iter_items l.pass-iterator) l.fn.intervals l.left;
}
