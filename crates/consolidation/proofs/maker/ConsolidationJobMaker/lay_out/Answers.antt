use Rattle.std.proofs.Common.{rules}
use Rattle.std.proofs.lemmas.Result.{IfErr-weaker, on_ok_weaker}
use Rattle.consolidation.proofs.Blanks.{are_blank_outputs, media_before}
use Rattle.consolidation.proofs.Numbers.{at_medium, media_after, media_early, no_medium}
use Rattle.consolidation.proofs.Writes.{wider}
use Rattle.consolidation.proofs.maker.ConsolidationJobMaker.lay_out.Goals as goal

pub returns-clause-lays_out : goal.returns-clause-lays_out
returns-clause-lays_out g c = record {
  laid = λ honest sources fit. on_ok_weaker c.lay_out_outputs.result
      (are_blank_outputs c.args.self.now c.lay_out_outputs.ensures.planned sources fit
      (g.B.Bench.stored c.lay_out_outputs.new.bench)) (c.lay_out_outputs.ensures.laid honest);
  marks = search rules;
  any_moment = search rules;
  left = search rules;
  early = media_early c.args.self.now c.lay_out_outputs.ensures.planned c.lay_out_outputs.result
      (g.B.Bench.failed_at c.lay_out_outputs.new.bench) c.lay_out_outputs.ensures.only_writes.failed_there;
  before = λ honest sources fit. media_before c.args.self.now c.lay_out_outputs.ensures.planned sources fit
      c.lay_out_outputs.result (g.B.Bench.stored c.lay_out_outputs.new.bench)
      (g.B.Bench.failed_at c.lay_out_outputs.new.bench) c.lay_out_outputs.ensures.only_writes.failed_there
      (c.lay_out_outputs.ensures.before honest);
  after = λ honest. media_after c.args.self.now c.lay_out_outputs.ensures.planned c.lay_out_outputs.result _ _
      (c.lay_out_outputs.ensures.only_writes.others honest) (c.lay_out_outputs.ensures.after honest);
  blank = search rules;
}

pub returns-clause-only_writes : goal.returns-clause-only_writes
returns-clause-only_writes g c = wider g.B.Bench _ _ (no_medium c.args.self.now c.lay_out_outputs.ensures.planned)
    (IfErr-weaker c.lay_out_outputs.result _ _ (λ fault fails failed. at_medium c.args.self.now fault
    (g.B.Bench.failed_at c.lay_out_outputs.new.bench) (fails failed))) c.lay_out_outputs.ensures.only_writes
