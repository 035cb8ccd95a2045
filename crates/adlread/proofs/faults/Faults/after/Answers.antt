use Rattle.std.proofs.Common.{◌≡◌, ◌∙◌, ap, false, sym, true}
use Rattle.sampletime.specs.FrameRate.{frames_per_second}
use Rattle.list_terms.specs.Lines.{lines_of}
use Rattle.list_terms.specs.Text.{nothing_passed}
use Rattle.adlread.specs.Context.{context_of}
use Rattle.adlread.specs.Further.{rate_beside}
use Rattle.adlread.proofs.FurtherFaults.{after-left}
use Rattle.adlread.proofs.faults.Faults.after.Goals as goal
use Rattle.adlread.proofs.faults.Faults.after.Goals.{then-is_over, else-is_over}

pub returns : goal.returns
returns c = record {
  further =
      after-left c.args.text.now c.args.first c.is_of_its_own-is_over.result (frames_per_second c.if-is_over.rate)
      (context_of c.in_ok-draft.draft) c.line.result c.new-2.result c.is_of_its_own-is_over.ensures c.line.ensures
      c.in_ok-draft.ensures c.new-2.ensures (λ own. elim c.if-is_over.branch as (λ _.
      frames_per_second c.if-is_over.rate ≡ rate_beside nothing_passed (lines_of c.args.text.now)) [
        | then-is_over w ↦ absurd (let no : true ≡ false = sym own ∙ w.if-is_over.true in cc)
        | else-is_over w ↦ ap frames_per_second w.rate-is ∙ w.rate_beside_faults-rate.ensures
      ]);
}
