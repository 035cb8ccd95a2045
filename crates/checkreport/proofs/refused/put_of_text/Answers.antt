use Rattle.std.proofs.Common.{◌∙◌, ◌++◌, ◌∷◌, [], map, subst, sym}
use Rattle.opening.specs.Faults.{refusal_of}
use Rattle.opening.specs.declared.fault.Fault.TheVariants.{List}
use Rattle.checkreport.proofs.Listed.{listed_more, listed_to_end}
use Rattle.checkreport.proofs.Parts.{one_more}
use Rattle.checkreport.specs.Report.{faults_of}
use Rattle.console.specs.Printing.{Prints}
use Rattle.console.specs.PrintingLaws.{prints_more}
use Rattle.checkreport.proofs.refused.put_of_text.Goals as goal

pub faults-preserved : goal.faults-preserved
faults-preserved g c =
    let so_far = c.faults.invariant in
    let told = c.in-Ok.ensures.printed in (
      so_far.0 ++ record { fault = List c.in-Some.fault; explained = told.0 } ∷ [],
      λ all complete is.
          let here = so_far.1 all complete is in
          let next = c.in-Some.ensures.further here.0 complete here.2 in (
            next.0,
            listed_more so_far.0 (record { fault = List c.in-Some.fault; explained = told.0 }) here.0 next.0 all here.1
                next.1,
            next.2,
          ),
      subst (Prints g.O.Console.contents g.O.Console.failures _ _) (one_more so_far.0 _)
          (prints_more g.O.Console.contents g.O.Console.failures so_far.2 told.1),
    )

pub returns-in_default : goal.returns-in_default
returns-in_default g c =
    let so_far = c.faults.invariant in (
      so_far.0,
      λ all complete is.
          let here = so_far.1 all complete is in
          listed_to_end all (map refusal_of (faults_of so_far.0)) here.0 complete _ here.1
          (λ uncut. c.in_default.ensures.further here.0 complete here.2 (sym c.is_cut_short.ensures ∙ uncut)),
      so_far.2,
    )

pub returns-in_default-put_next : goal.returns-in_default-put_next
returns-in_default-put_next g c =
    let so_far = c.faults.invariant in (
      so_far.0,
      λ all complete is. let here = so_far.1 all complete is in (here.0, here.1),
      rw c.in_default-put_next.ensures.unprinted so_far.2,
    )

pub returns : goal.returns
returns g c =
    let so_far = c.faults.invariant in (
      so_far.0,
      λ all complete is. let here = so_far.1 all complete is in (here.0, here.1),
      so_far.2,
    )
