use Rattle.std.proofs.Common.{◌≡◌, ◌++◌, Bool, List, map}
use Rattle.work_terms.specs.Refusals.{Refusal}
use Rattle.adlread.specs.Further.{IsLeft}
use Rattle.opening.specs.Faults.{refusal_of}
use Rattle.checkreport.specs.Parts.{after_commas, fault_text}
use Rattle.checkreport.specs.Report.{ExplainedFault, faults_of}
use Rattle.console.specs.Printing.{Prints}
use Rattle.checkreport.proofs.refused.put_of_text.Given as goal

-- the printed faults and the remaining ones are all faults
abbrev pub invariant-faults : goal.invariant-faults
invariant-faults g l =
    (printed : List ExplainedFault)
    × ((all : List Refusal) (complete : Bool) → IsLeft l.initial.faults all complete
    → (rest : List Refusal) × (map refusal_of (faults_of printed) ++ rest ≡ all) × IsLeft l.faults rest complete)
    × Prints g.O.Console.contents g.O.Console.failures l.initial.out l.out (after_commas fault_text printed)
