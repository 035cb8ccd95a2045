use Rattle.std.proofs.Common.{◌≡◌, ◌∙◌, ◌<◌, ap, sym, subst, ◌+◌, Some, None, inl, inr, length, get_or, refl, arith}
use Rattle.std.proofs.lemmas.List.{get_or_default, get_or_past}
use Rattle.std.proofs.lemmas.Bool.{cases_lt}
use Rattle.job_terms.specs.Board.{Board, can_give, is_givable, no_job, next_job, job_at, with_job}
use Rattle.job_terms.specs.declared.Job.{Job}
use Rattle.job_terms.specs.declared.Ticket.{Ticket}
use Rattle.job_terms.specs.declared.Standing.TheVariants.{Out}
use Rattle.workboard.proofs.Tables.{first-at, first-none}
use Rattle.workboard.proofs.board.Board.give.Goals as goal

pub returns-in_default-clause-none : goal.returns-in_default-clause-none
returns-in_default-clause-none c =
    let t = c.self.invariant in
    let none = first-none (can_give (record { jobs = c.self.inside.jobs.items; order = c.self.inside.order.items }))
    c.self.inside.order.items
    (λ q lt. let at : q < length c.self.inside.jobs.items = omega (arith, t.whole, lt) in
    sym (t.flagged q at) ∙ c.in_default.ensures q (omega (arith, t.flags, at))) in
    (refl, subst (λ (b : Board). next_job b ≡ None) c.self.view_is none)

pub returns-clause-given : goal.returns-clause-given
returns-clause-given c =
    let t = c.self.invariant in
    let at : c.in-Some.at < length c.self.inside.jobs.items = omega (arith, t.flags, c.in-Some.ensures.0) in
    let k : c.index-k.result.now ≡ get_or c.self.inside.order.items c.in-Some.at 0 =
    c.index-k.ensures ∙ get_or_default c.self.inside.order.items c.in-Some.at c.index-k.result.now 0
    (omega (arith, t.whole, at)) in
    let below : c.index-k.result.now < length c.self.inside.jobs.items = omega (arith, k, t.job_below c.in-Some.at at)
    in
    let job : c.index-job.result.now ≡ get_or c.self.inside.jobs.items c.index-k.result.now no_job =
    c.index-job.ensures ∙ get_or_default c.self.inside.jobs.items c.index-k.result.now c.index-job.result.now no_job
    below in
    let here : c.index-job.result.now ≡ job_at c.args.self.now c.index-k.result.now =
    job ∙ ap (λ (b : Board). job_at b c.index-k.result.now) c.self.view_is in
    let first = first-at (can_give (record { jobs = c.self.inside.jobs.items; order = c.self.inside.order.items }))
    c.self.inside.order.items c.in-Some.at (omega (arith, t.whole, at))
    (sym (t.flagged c.in-Some.at at) ∙ c.in-Some.ensures.1)
    (λ q lt. sym (t.flagged q (omega (arith, lt, at))) ∙ c.in-Some.ensures.2 q lt) in (
      subst (λ (b : Board). next_job b ≡ Some c.index-k.result.now) c.self.view_is (first ∙ ap (λ n. Some n) (sym k)),
      ap {B = Ticket} (λ n. record { job = c.index-k.result.now; serial = n + 1 }) (ap (λ (j : Job). j.given) here),
      c.put.ensures ∙ ap (λ (j : Job). with_job c.args.self.now c.index-k.result.now (record j {
        standing = Out;
        given
            = j.given + 1;
      })) here,
    )

pub returns-in_default-clause-none_left : goal.returns-in_default-clause-none_left
returns-in_default-clause-none_left c k =
    let t = c.self.invariant in
    let seen : is_givable (get_or c.self.inside.jobs.items k no_job) ≡ can_give c.args.self.now k = ap (λ (b : Board).
    can_give b k) c.self.view_is in
    sym seen ∙ elim (cases_lt k (length c.self.inside.jobs.items)) [
      | inl lt ↦ ap (λ i. is_givable (get_or c.self.inside.jobs.items i no_job)) (sym (t.placed k lt))
          ∙ sym (t.flagged (get_or c.self.inside.places.items k 0) (t.place_below k lt))
          ∙ c.in_default.ensures (get_or c.self.inside.places.items k 0) (omega (arith, t.flags, t.place_below k lt))
      | inr past ↦ ap is_givable (get_or_past c.self.inside.jobs.items k no_job past)
    ]
