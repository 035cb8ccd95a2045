use Rattle.std.proofs.Common.{◌++◌, ◌∷◌, [], subst}
use Rattle.checkreport.proofs.Listed.{listed_so_far}
use Rattle.checkreport.proofs.Parts.{faults_step, one_more}
use Rattle.checkreport.specs.Report.{faults_of}
use Rattle.console.specs.Printing.{Prints}
use Rattle.console.specs.PrintingLaws.{prints_more}
use Rattle.checkreport.proofs.refused.put_all.Goals as goal

pub loop-fault-preserved : goal.loop-fault-preserved
loop-fault-preserved g c =
    let so_far = c.loop-fault.invariant in
    let told = c.in-Ok.ensures.printed in (
      so_far.0 ++ record { fault = c.fault-item.result; explained = told.0 } ∷ [],
      faults_step so_far.0 _ c.loop-fault.fault-index c.args.faults.now c.fault-item.result c.loop-fault-test.true
          so_far.1 c.fault-item.is,
      subst (Prints g.O.Console.contents g.O.Console.failures _ _) (one_more so_far.0 _)
          (prints_more g.O.Console.contents g.O.Console.failures so_far.2 told.1),
    )

pub returns-in_default : goal.returns-in_default
returns-in_default g c =
    let so_far = c.loop-fault.invariant in (
      so_far.0,
      listed_so_far c.loop-fault.fault-index c.args.faults.now (faults_of so_far.0) so_far.1,
      rw c.in_default.ensures.unprinted so_far.2,
    )
