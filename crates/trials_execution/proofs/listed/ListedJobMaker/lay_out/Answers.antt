use Rattle.std.proofs.Common.{◌≡◌, ◌≢◌, ◌∙◌, IsTrue, codes, sym, subst, arith, rules}
use Rattle.execution.specs.Plan.{Stays}
use Rattle.trials_execution.specs.Listed.{plan_of}
use Rattle.trials_execution.proofs.Outs.{blank-out, both, no-out, wider}
use Rattle.trials_execution.proofs.listed.ListedJobMaker.lay_out.Goals as goal

pub returns-in-Err-clause-only_writes : goal.returns-in-Err-clause-only_writes
returns-in-Err-clause-only_writes g c = wider g.B.Bench (λ n. n ≢ codes "out") (Stays plan_of) no-out (λ x. x) (λ x. x)
    (λ _. (omega arith, c.in-Err.ensures.only_writes.failed_there tt)) c.in-Err.ensures.only_writes

pub returns-in-Ok-append-clause-only_writes : goal.returns-in-Ok-append-clause-only_writes
returns-in-Ok-append-clause-only_writes g c = both g.B.Bench (Stays plan_of)
    (wider g.B.Bench (λ n. n ≢ codes "out") (Stays plan_of) no-out (λ x. x) (λ x. x) tt c.in-Ok.ensures.only_writes)
    (wider g.B.Bench (λ n. n ≢ codes "out") (Stays plan_of) no-out (λ x. x) (λ x. x) tt
    c.in-Ok-append.ensures.only_writes)

pub returns-in-Err-append-clause-only_writes : goal.returns-in-Err-append-clause-only_writes
returns-in-Err-append-clause-only_writes g c = both g.B.Bench (Stays plan_of)
    (wider g.B.Bench (λ n. n ≢ codes "out") (Stays plan_of) no-out (λ x. x) (λ x. x) tt c.in-Ok.ensures.only_writes)
    (wider g.B.Bench (λ n. n ≢ codes "out") (Stays plan_of) no-out (λ x. x) (λ x. x)
    (λ _. (omega arith, c.in-Err-append.ensures.only_writes.failed_there tt)) c.in-Err-append.ensures.only_writes)

pub returns-in-Ok-append-clause-lays_out : goal.returns-in-Ok-append-clause-lays_out
returns-in-Ok-append-clause-lays_out g c = record {
  laid = λ honest sources parts. blank-out (g.B.Bench.stored c.args.bench.now) (g.B.Bench.stored c.create.new.self)
      (g.B.Bench.stored c.append.new.self) sources (c.in-Ok.ensures.created honest)
      (c.in-Ok-append.ensures.appended (subst IsTrue (sym c.in-Ok.ensures.only_writes.honest_same) honest));
  marks = search rules;
  any_moment = search rules;
  left = search rules;
  early = search rules;
  before = search rules;
  after = search rules;
  blank = search rules;
}

pub returns-in-Err-clause-lays_out : goal.returns-in-Err-clause-lays_out
returns-in-Err-clause-lays_out g c = record {
  laid = search rules;
  marks = search rules;
  any_moment = search rules;
  left = search rules;
  early = omega arith;
  before = λ honest sources fit k i below under same. absurd (omega (arith, under));
  after = λ honest i past inside.
      let is : i ≡ 1 = omega (arith, past, inside) in
      rw is (c.in-Err.ensures.only_writes.others honest (codes "list") (λ e. cc));
  blank = search rules;
}

pub returns-in-Err-append-clause-lays_out : goal.returns-in-Err-append-clause-lays_out
returns-in-Err-append-clause-lays_out g c = record {
  laid = search rules;
  marks = search rules;
  any_moment = search rules;
  left = search rules;
  early = omega arith;
  before = λ honest sources fit k i below under same. absurd (omega (arith, under));
  after = λ honest i past inside.
      let is : i ≡ 1 = omega (arith, past, inside) in
      let still = subst IsTrue (sym c.in-Ok.ensures.only_writes.honest_same) honest in
      rw is (c.in-Err-append.ensures.only_writes.others still (codes "list") (λ e. cc)
      ∙ c.in-Ok.ensures.only_writes.others honest (codes "list") (λ e. cc));
  blank = search rules;
}
