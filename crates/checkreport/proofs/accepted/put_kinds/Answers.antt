use Rattle.std.proofs.Common.{◌∙◌, ◌||◌, ap, get_or, subst}
use Rattle.list_terms.specs.declared.Notice.{Notice}
use Rattle.checkreport.specs.Report.{is_of_index}
use Rattle.checkreport.proofs.Parts.{any_step, kinds_step}
use Rattle.console.specs.Printing.{Prints}
use Rattle.console.specs.PrintingLaws.{prints_more}
use Rattle.checkreport.proofs.accepted.put_kinds.Goals as goal

pub loop-notice-preserved : goal.loop-notice-preserved
loop-notice-preserved g c =
    let none : Notice = record { kind = 0; at = 0 } in
    let index = c.args.index in
    let notices = c.args.notices.now in
    let k = c.loop-notice.notice-index in (
      subst (Prints g.O.Console.contents g.O.Console.failures _ _)
          (kinds_step index k notices none c.loop-notice-test.true)
          (prints_more g.O.Console.contents g.O.Console.failures c.loop-notice.invariant.0
          (rw (c.loop-notice.invariant.1) at c.put_kind-is_later.ensures.printed)),
      c.put_kind-is_later.ensures.later
          ∙ ap (λ later. later || is_of_index index (get_or notices k none)) c.loop-notice.invariant.1
          ∙ any_step index k notices none c.loop-notice-test.true,
    )
