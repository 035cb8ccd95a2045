-- Rounds of one worker, from a board at rest: as many as the jobs can take finish them.
use Rattle.std.proofs.Common.{◌≡◌, ℕ, zero, suc, ◌+◌, ◌-◌, ◌<◌, ◌≤◌, Bool, true, false, cond, List, [], ◌∷◌, length, length-set, get_or, get_or-set_same, get_or-set_other, refl, ap, inl, inr, arith, eq-eqb, ◌∙◌, ◌*◌, Ok, subst}
use Rattle.std.proofs.lemmas.Bool.{cases_eq, leb-false}
use Rattle.std.proofs.lemmas.Bool.Decides.{nat_tests}
use Rattle.std.specs.List.{count_by, sum_by}
use lib.Seq.{set-set}
use Rattle.std.proofs.lemmas.List.Elements.{All-from_get_or}
use Rattle.std.proofs.lemmas.List.Sums.{get_or-le-sum_by, sum_by-cons, sum_by-le, sum_by-set}
use Rattle.job_terms.specs.declared.Job.{Job}
use Rattle.job_terms.specs.declared.Standing.TheVariants.{Out}
use Rattle.job_terms.specs.Board.{Board, can_give, given_out, is_current, is_done, is_finished, is_givable, is_open, done_job, fresh_job, job_at, no_job, ticket_of, with_job}
use Rattle.execution.specs.Alone.{Accepted, AtRest, Failed, Finished, IsAtRest, Turned, Waits, all_rounds_left, rounds_left}
use Rattle.execution.proofs.Changes.{givable-there, open-undone}
use Rattle.std.proofs.lemmas.List.{get_or-map, length-map, take_all}
use Rattle.job_terms.specs.declared.BoardEvent.{BoardEvent}
use Rattle.job_terms.specs.declared.Progress.{Progress}
use Rattle.job_terms.specs.Workers.{Hand, Holds, Nothing, rounds}
use Rattle.execution.specs.Boards.{board_with}
use Rattle.execution.specs.EventRun.{Performed, Snapshot, listed}
use Rattle.execution.specs.Turns.{DeliverTurn, Fails, FindsNone, Gets, GiveTurn, Keeps, Makes, Takes, Turns, WorkTurn}

-- ---- counts

-- all pass
count-all : (p : Job → Bool) (xs : List Job) → ((k : ℕ) → k < length xs → p (get_or xs k no_job) ≡ true)
    → count_by p xs ≡ length xs
count-all p [] all = refl
count-all p (x ∷ xs) all =
    let first : cond {A = ℕ} (p x) 1 0 ≡ 1 = ap {B = ℕ} (λ b. cond b 1 0) (all zero (omega arith)) in
    let rest = count-all p xs (λ k lt. all (suc k) (omega (arith, lt))) in
    omega (arith, sum_by-cons (λ y. cond (p y) 1 0) x xs, first, rest)

-- an open job that was given twice at most can be given
waits-givable : (job : Job) → is_open job.standing ≡ true → job.given ≤ 2 → is_givable job ≡ true
waits-givable job free few = rw free (grind (arith, nat_tests, few))

-- at rest, a job that can't be given is done
rest-done : (job : Job) → IsAtRest job → is_givable job ≡ false → is_done job.standing ≡ true
rest-done job (Finished e) none = e
rest-done job (Waits free given few) none = cc (waits-givable job free (omega (arith, given, few)), none)

-- where none can be given, none is left
rest-finished : (board : Board) → AtRest board → ((k : ℕ) → can_give board k ≡ false) → is_finished board ≡ true
rest-finished board rest none = eq-eqb (count_by (λ job. is_done job.standing) board.jobs) (length board.jobs)
    (count-all (λ job. is_done job.standing) board.jobs (λ k lt. rest-done (job_at board k) (rest.each k lt) (none k)))

-- and no round
no-rounds : (board : Board) → AtRest board → ((k : ℕ) → can_give board k ≡ false) → all_rounds_left board ≡ 0
no-rounds board rest none = omega (
  arith,
  sum_by-le rounds_left 0 board.jobs (All-from_get_or
      (λ job. rounds_left job ≤ 0) board.jobs no_job
      (λ k lt. rw (rest-done (job_at board k) (rest.each k lt) (none k)) (omega arith))),
)

-- jobs of which some are done are at rest
pub rest-with : (done : List Bool) (order : List ℕ) → AtRest (board_with done order)
rest-with done order = record {
  each = λ k lt. rw (get_or-map (λ d. cond d done_job fresh_job) done k false no_job
      (omega (arith, lt, length-map done (λ (d : Bool). cond d done_job fresh_job)))) (go (get_or done k false));
}
  where
    go : (d : Bool) → IsAtRest (cond d done_job fresh_job)
    go true = Finished refl
    go false = Waits refl refl (omega arith)

-- ---- a job that is given

-- it failed as often as it was given, twice at most
rest-given : (job : Job) → IsAtRest job → is_givable job ≡ true → (job.given ≡ job.faults) × (job.faults ≤ 2)
rest-given job (Finished e) can = cc (e, open-undone job can)
rest-given job (Waits free given few) can = (given, few)

-- it is out
given-job : (board : Board) (k : ℕ) → can_give board k ≡ true
    → job_at (given_out board k) k ≡ record (job_at board k) { standing = Out; given = (job_at board k).given + 1 }
given-job board k can = get_or-set_same board.jobs k _ no_job (givable-there board k can)

-- under its current ticket
pub current-given : (board : Board) (k : ℕ) → can_give board k ≡ true
    → is_current (given_out board k) (ticket_of board k) ≡ true
current-given board k can = rw (given-job board k can) (eq-eqb ((job_at board k).given + 1) _ refl)

-- some rounds are left of it
left-given : (job : Job) → is_givable job ≡ true → rounds_left job ≡ 3 - job.faults
left-given job can = rw (open-undone job can)

pub given-left : (job : Job) → IsAtRest job → is_givable job ≡ true → 0 < rounds_left job
given-left job rest can = omega (arith, left-given job can, (rest-given job rest can).1)

-- it was given out and then put back at rest, with less left: so it is with all jobs
put-back : (board : Board) (k : ℕ) (x y : Job) → AtRest board → k < length board.jobs → IsAtRest y
    → rounds_left y < rounds_left (job_at board k) → AtRest (with_job (with_job board k x) k y)
    × (all_rounds_left (with_job (with_job board k x) k y) < all_rounds_left board)
put-back board k x y rest lt good less = rw (set-set board.jobs k x y) (
  record {
    each = λ j below. elim (cases_eq j k) [
      | inl e ↦ rw (e, get_or-set_same board.jobs k y no_job lt) good
      | inr ne ↦ rw (get_or-set_other board.jobs k j y no_job ne)
          (rest.each j (omega (arith, below, length-set board.jobs k y)))
    ];
  },
  omega (arith, sum_by-set rounds_left board.jobs k y no_job lt, less),
)

-- after its turn the board is at rest again, and one round less is left
pub turned-rest : (board new : Board) (k : ℕ) → AtRest board → can_give board k ≡ true
    → Turned (given_out board k) (ticket_of board k) new → AtRest new × (all_rounds_left new < all_rounds_left board)
turned-rest board new k rest can (Accepted e) =
    let lt = givable-there board k can in
    rw e (put-back board k _ _ rest lt (Finished refl) (given-left (job_at board k) (rest.each k lt) can))
turned-rest board new k rest can (Failed last e) =
    let lt = givable-there board k can in
    let facts = rest-given (job_at board k) (rest.each k lt) can in
    let given = ap (λ (j : Job). j.given) (given-job board k can) in
    let faults = ap (λ (j : Job). j.faults) (given-job board k can) in
    let few = leb-false 2 (job_at (given_out board k) k).faults last in
    rw e (put-back board k _ _ rest lt (Waits refl (omega (arith, given, faults, facts.0)) (omega (arith, few)))
    (omega (arith, left-given (job_at board k) can, facts.1, faults, few)))

-- ---- how many rounds are left at most

-- three for each job
left-few : (jobs : List Job) → sum_by rounds_left jobs ≤ length jobs * 3
left-few jobs = sum_by-le rounds_left 3 jobs (All-from_get_or (λ job. rounds_left job ≤ 3) jobs no_job
    (λ k lt. one (get_or jobs k no_job) (is_done (get_or jobs k no_job).standing)))
  where
    one : (job : Job) (b : Bool) → cond b 0 (3 - job.faults) ≤ 3
    one job true = omega arith
    one job false = omega arith

-- where none is left, each job is done
spent : (board : Board) → AtRest board → all_rounds_left board ≡ 0 → is_finished board ≡ true
spent board rest none = rest-finished board rest (λ k. go k (can_give board k) refl)
  where
    go : (k : ℕ) (b : Bool) → can_give board k ≡ b → can_give board k ≡ false
    go k false e = e
    go k true e = let lt = givable-there board k e in absurd (omega (
      arith,
      none,
      get_or-le-sum_by rounds_left board.jobs k no_job lt,
      given-left (job_at board k) (rest.each k lt) e,
    ))

-- ---- one round

module _ (board one two three : Board) (h1 h2 h3 : Hand) (rest : AtRest board) (work : WorkTurn one h1 two h2)
    (deliver : DeliverTurn two h2 three h3) where
  -- a job that was given is made and delivered, or it failed
  given-round : (k : ℕ) → can_give board k ≡ true → one ≡ given_out board k → h1 ≡ Holds (ticket_of board k)
      → AtRest three × (all_rounds_left three < all_rounds_left board) × (h3 ≡ Nothing)
  given-round k can is holds = made (rw holds at work)
    where
      turned : (b new : Board) → b ≡ given_out board k
          → (is_current b (ticket_of board k) ≡ true → Turned b (ticket_of board k) new)
          → AtRest new × (all_rounds_left new < all_rounds_left board)
      turned b new same turn = turned-rest board new k rest can
          (subst (λ x. is_current x (ticket_of board k) ≡ true → Turned x (ticket_of board k) new) same turn
          (current-given board k can))

      made : Makes one (ticket_of board k) two h2
          → AtRest three × (all_rounds_left three < all_rounds_left board) × (h3 ≡ Nothing)
      made (Keeps bytes same m) =
          let out = rw m at deliver in let after = turned two three (same ∙ is) out.0 in (after.0, after.1, out.1)
      made (Fails turn m) =
          let out = rw m at deliver in let after = turned one two is turn in rw out.0 (after.0, after.1, out.1)

  -- after a round: at rest, with one round less left, if any was, and with an empty hand
  one-round : Takes board one h1
      → AtRest three × (all_rounds_left three ≤ all_rounds_left board - 1) × (h3 ≡ Nothing)
  one-round (Gets k can is holds) =
      let after = given-round k can is holds in (after.0, omega (arith, after.1), after.2)
  one-round (FindsNone none is empty) =
      let made = rw empty at work in
      let out = rw made.1 at deliver in
      let same : three ≡ board = out.0 ∙ made.0 ∙ is in
      rw same (rest, omega (arith, no-rounds board rest none), out.1)

-- ---- rounds

-- where no more rounds than these are left they finish it
rounds-finish : (n : ℕ) (old new : Board) (had has : ℕ → Hand) → Turns (rounds n) old had new has → AtRest old
    → had 1 ≡ Nothing → all_rounds_left old ≤ n → is_finished new ≡ true
rounds-finish zero old new had has turns rest empty few = rw turns.0 (spent old rest (omega (arith, few)))
rounds-finish (suc n) old new had has given rest empty few =
    let worked = given.3 in
    let delivered = worked.3 in
    let after = one-round old given.0 worked.0 delivered.0 (given.1 1) (worked.1 1) (delivered.1 1) rest worked.2
    delivered.2 (subst (λ (h : Hand). GiveTurn old h given.0 (given.1 1)) empty given.2) in
    rounds-finish n delivered.0 new delivered.1 has delivered.3 after.0 after.2 (omega (arith, after.1, few))

-- rounds that reported how far the jobs are have done all of them
pub rounds-finished : {in_rounds : Bool} {count : ℕ} (events : List BoardEvent) {a : Snapshot} {c : ℕ → Snapshot}
    {ha hc : ℕ → Hand} {progress : Progress} → in_rounds ≡ true
    → (p : Performed in_rounds (listed in_rounds count events) a ha c hc (Ok progress)) → length a.board.jobs ≡ count
    → AtRest a.board → ha 1 ≡ Nothing → is_finished (c p.stale).board ≡ true
rounds-finished {in_rounds = false} events turn p size rest empty = cc
rounds-finished {in_rounds = true} {count = count} events {a = a} {c = c} {ha = ha} {hc = hc} turn p size rest empty =
    elim p.stops.1 [
      | inr finished ↦ finished.1
      | inl all ↦ rounds-finish (3 * count) a.board (c p.stale).board ha hc
          (subst (λ (es : List BoardEvent). Turns es a.board ha (c p.stale).board hc)
          (take_all p.count (rounds (3 * count)) (omega (arith, all))) (p.ran.turned refl)) rest empty
          (omega (arith, left-few a.board.jobs, size))
    ]
