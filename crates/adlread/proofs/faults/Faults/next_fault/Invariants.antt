use Rattle.std.proofs.Common.{◌≡◌, Bool, List, false, length}
use Rattle.work_terms.specs.Refusals.{Refusal}
use Rattle.adlread.specs.Further.{IsLeft}
use Rattle.adlread.proofs.faults.Faults.next_fault.Given as goal

-- The faults that remained at the start remain, and the iteration isn't over.
abbrev pub invariant-lines : goal.invariant-lines
invariant-lines l = record {
  left : (further : List Refusal) (complete : Bool) → IsLeft l.initial.self further complete
      → IsLeft l.self further complete;
  on : l.self.is_over ≡ false;
}

abbrev pub decreases-lines : goal.decreases-lines
decreases-lines l = length l.self.lines.lines
