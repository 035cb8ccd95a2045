use Rattle.std.proofs.Common.{◌∙◌, IsTrue, ap, rules}
use Rattle.work_terms.specs.Disk.{Files, IsDurable}
use Rattle.consolidation.proofs.Numbers.{before_failed, both_ok, each_last, foreign_behind, last_there, media_durable, own_behind}
use Rattle.consolidation.proofs.Writes.{read_only, then_writes, wider}
use Rattle.consolidation.proofs.maker.ConsolidationJobMaker.finish.Goals as goal

pub returns-clause-finishes : goal.returns-clause-finishes
returns-clause-finishes g c =
    let plan = c.args.self.now in
    let synced = c.sync_outputs.ensures.only_reads in
    let on : IsTrue (g.B.Bench.honest c.args.bench.now) → IsTrue (g.B.Bench.honest c.sync_outputs.new.bench) =
    λ honest. rw synced.honest_same honest in
    let last = c.write_last.ensures in record {
      stays = λ honest n own. last.only_writes.others (on honest) n (own_behind plan n own)
          ∙ ap (λ (files : Files). files n) synced.same;
      last = λ honest sources holds. both_ok c.write_last.result (last.list (on honest)) (last.report (on honest))
          (last_there plan sources _);
      in_order = search rules;
      before = λ honest sources holds. before_failed plan c.write_last.result sources _
          (g.B.Bench.failed_at c.write_last.new.bench) last.only_writes.failed_there (last.sums_first (on honest)) (last.report_first (on honest));
      durable = λ honest. both_ok c.write_last.result (last.durable_list (on honest)) (last.durable_report (on honest))
          (λ list report. record {
            jobs = media_durable plan _ _ _ _ (last.only_writes.durable (on honest))
                (c.in_ok-sync_outputs.ensures.durable honest);
            last = each_last plan (λ n. IsDurable n (g.B.Bench.stored c.write_last.new.bench)
                (g.B.Bench.may_leave c.write_last.new.bench)) (list, report);
          });
      marks_durable = search rules;
      marks = search rules;
      any_moment = search rules;
    }

pub returns-clause-only_writes : goal.returns-clause-only_writes
returns-clause-only_writes g c = then_writes g.B.Bench _ tt
    (read_only g.B.Bench _ (λ failed. failed) c.in_ok-sync_outputs.ensures.crash c.in_ok-sync_outputs.ensures.only_reads)
    (wider g.B.Bench _ _ (foreign_behind c.args.self.now) (λ failed. failed) c.write_last.ensures.only_writes)
