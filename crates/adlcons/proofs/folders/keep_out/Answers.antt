use Rattle.std.proofs.Common.{ℕ, List, subst}
use Rattle.verdicts.specs.Verdicts.{Tells}
use Rattle.places.specs.Opening.{refusal_of_opening}
use Rattle.adlcons.proofs.Refused.{same_line}
use Rattle.adlcons.proofs.folders.keep_out.Goals as goal

pub returns : goal.returns
returns g c = record {
  fault = c.args.fault;
  status_is = c.refuse_early.ensures.status;
  printed = subst (λ (text : List ℕ). Tells g.O.Console c.args.out.now c.refuse_early.new.out text)
      (same_line (refusal_of_opening c.args.fault c.args.list.now c.args.folder.now) _ _
      c.refusal-refusal.ensures.number c.refusal-refusal.ensures.location)
      c.refuse_early.ensures.printed;
}
