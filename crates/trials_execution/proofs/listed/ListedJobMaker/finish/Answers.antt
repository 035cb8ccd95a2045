use Rattle.std.proofs.Common.{◌≢◌, IsTrue, codes, sym, subst, arith, rules}
use Rattle.execution.specs.Plan.{IsForeign}
use Rattle.trials_execution.specs.Listed.{plan_of}
use Rattle.trials_execution.proofs.Outs.{both, list-durable, list-there, no-list, no-more, out-list, own-stays, read-only, wider}
use Rattle.trials_execution.proofs.listed.ListedJobMaker.finish.Goals as goal

pub returns-in-Err-clause-only_writes : goal.returns-in-Err-clause-only_writes
returns-in-Err-clause-only_writes g c = read-only g.B.Bench (IsForeign plan_of) (λ x. x) (λ x. x)
    (λ _. (omega arith, c.in-Err.ensures.only_reads.failed_there tt)) c.in-Err.ensures.crash c.in-Err.ensures.only_reads

pub returns-in-Ok-write_list-clause-only_writes : goal.returns-in-Ok-write_list-clause-only_writes
returns-in-Ok-write_list-clause-only_writes g c = both g.B.Bench (IsForeign plan_of)
    (read-only g.B.Bench (IsForeign plan_of) (λ x. x) (λ x. x) tt c.in-Ok.ensures.crash c.in-Ok.ensures.only_reads)
    (wider g.B.Bench (λ n. n ≢ codes "list") (IsForeign plan_of) no-list (λ x. x) (λ x. x) tt
    c.in-Ok-write_list.ensures.only_writes)

pub returns-in-Err-write_list-clause-only_writes : goal.returns-in-Err-write_list-clause-only_writes
returns-in-Err-write_list-clause-only_writes g c = both g.B.Bench (IsForeign plan_of)
    (read-only g.B.Bench (IsForeign plan_of) (λ x. x) (λ x. x) tt c.in-Ok.ensures.crash c.in-Ok.ensures.only_reads)
    (wider g.B.Bench (λ n. n ≢ codes "list") (IsForeign plan_of) no-list (λ x. x) (λ x. x)
    (λ _. (omega arith, c.in-Err-write_list.ensures.only_writes.failed_there tt))
    c.in-Err-write_list.ensures.only_writes)

pub returns-in-Ok-write_list-clause-finishes : goal.returns-in-Ok-write_list-clause-finishes
returns-in-Ok-write_list-clause-finishes g c = record {
  stays = own-stays g.B.Bench c.in-Ok.ensures.only_reads c.in-Ok-write_list.ensures.only_writes;
  last = λ honest sources hold i last. list-there (g.B.Bench.stored c.write_list.new.bench) sources i last
      (c.in-Ok-write_list.ensures.written (subst IsTrue (sym c.in-Ok.ensures.only_reads.honest_same) honest));
  in_order = search rules;
  before = search rules;
  durable = λ honest.
      let still = subst IsTrue (sym c.in-Ok.ensures.only_reads.honest_same) honest in record {
        jobs = λ k lt. c.in-Ok-write_list.ensures.only_writes.durable still (codes "out") out-list
            (c.in-Ok.ensures.durable honest);
        last = λ i last. list-durable (g.B.Bench.stored c.write_list.new.bench)
            (g.B.Bench.may_leave c.write_list.new.bench) i last (c.in-Ok-write_list.ensures.durable still);
      };
  marks_durable = search rules;
  marks = search rules;
  any_moment = search rules;
}

pub returns-in-Err-write_list-clause-finishes : goal.returns-in-Err-write_list-clause-finishes
returns-in-Err-write_list-clause-finishes g c = record {
  stays = own-stays g.B.Bench c.in-Ok.ensures.only_reads c.in-Err-write_list.ensures.only_writes;
  last = search rules;
  in_order = λ honest i last after. absurd (no-more i last after);
  before = λ honest sources hold i last under. absurd (omega (arith, last, under));
  durable = search rules;
  marks_durable = search rules;
  marks = search rules;
  any_moment = search rules;
}
