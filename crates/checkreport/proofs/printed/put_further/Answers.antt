use Rattle.std.proofs.Common.{◌∙◌, arith, inr, subst, true}
use Rattle.checkreport.proofs.Listed.{listed_devices, listed_of_all, listed_of_first}
use Rattle.checkreport.specs.Report.{faults_of}
use Rattle.checkreport.specs.Reported.{AreListed}
use Rattle.checkreport.proofs.printed.put_further.Goals as goal

pub returns : goal.returns
returns g c =
    let more = c.put_all-are_printed.ensures in (
      more.0,
      λ honest.
          let all = c.in-Ok.ensures.further honest in
          inr (
            all.0,
            all.1,
            listed_of_all 18446744073709551615 all.0 (faults_of more.0) c.put_all-are_printed.result
                (omega (arith, all.2.1, c.if-further-gt0.false))
                (subst (λ faults. AreListed faults true (faults_of more.0) c.put_all-are_printed.result)
                (c.deref.ensures.value ∙ all.2.0) more.1),
          ),
      λ devices. c.in-Ok.ensures.counted
          (listed_devices c.in-Ok.further.faults.items (faults_of more.0) c.put_all-are_printed.result
          (subst (λ faults. AreListed faults true (faults_of more.0) c.put_all-are_printed.result)
          c.deref.ensures.value more.1) devices),
      more.2,
    )

pub returns-then-further-gt0 : goal.returns-then-further-gt0
returns-then-further-gt0 g c =
    let more = c.put_all-are_printed.ensures in (
      more.0,
      λ honest.
          let all = c.in-Ok.ensures.further honest in
          inr (
            all.0,
            all.1,
            listed_of_first 18446744073709551615 all.0 (faults_of more.0) c.put_all-are_printed.result
                (subst (λ faults. AreListed faults true (faults_of more.0) c.put_all-are_printed.result)
                (c.deref.ensures.value ∙ all.2.0) more.1),
          ),
      λ devices. c.in-Ok.ensures.counted
          (listed_devices c.in-Ok.further.faults.items (faults_of more.0) c.put_all-are_printed.result
          (subst (λ faults. AreListed faults true (faults_of more.0) c.put_all-are_printed.result)
          c.deref.ensures.value more.1) devices),
      more.2,
    )
