use Rattle.std.proofs.Common.{◌≡◌, List, take}
use Rattle.checkreport.specs.Parts.{after_commas, fault_text}
use Rattle.checkreport.specs.Report.{ExplainedFault, faults_of}
use Rattle.console.specs.Printing.{Prints}
use Rattle.checkreport.proofs.refused.put_all.Given as goal

-- the faults so far are printed
abbrev pub invariant-loop-fault : goal.invariant-loop-fault
invariant-loop-fault g l =
    (printed : List ExplainedFault) × (faults_of printed ≡ take l.fault-index l.faults)
    × Prints g.O.Console.contents g.O.Console.failures l.initial.out l.out (after_commas fault_text printed)
