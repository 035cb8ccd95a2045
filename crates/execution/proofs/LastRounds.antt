-- Rounds of worker 1 that are left over once all jobs are done change nothing.
use Rattle.std.proofs.Common.{◌≡◌, ◌⊎◌, ℕ, zero, suc, ◌*◌, ◌+◌, Bool, true, false, MatchBool, is_none, None, List, [], ◌∷◌, length, take, drop, take-append-drop, take_all, refl, sym, ap, subst, inl, inr, arith}
use Rattle.std.specs.Prelude.{⊤}
use mathlib.Core.Path.{fun_ext}
use Rattle.std.proofs.lemmas.Bool.Decides.{eqb_tells}
use Rattle.work_terms.specs.Disk.{Files}
use Rattle.job_terms.specs.declared.BoardEvent.{BoardEvent}
use Rattle.job_terms.specs.declared.BoardEvent.TheVariants.{Give, Work, Deliver}
use Rattle.job_terms.specs.declared.Standing.TheVariants.{Out}
use Rattle.job_terms.specs.Board.{Board, can_give, is_finished, job_at}
use Rattle.job_terms.specs.Workers as w
use Rattle.job_terms.specs.Workers.{BoardRun, BoardStep, CantMake, CantMark, CantWrite, DeliverStep, Delivers, Gives, GiveStep, Hand, HasNoBytes, HasNoJob, Holds, IsStale, Jobs, Made, Makes, NoneLeft, Nothing, State, World, WorkStep, rounds, with_hand}
use Rattle.execution.specs.BoardLaws.{finished_done}
use Rattle.execution.specs.EventRun.{Snapshot, listed}
use Rattle.execution.specs.Marking.{done_of}
use Rattle.execution.specs.Outcome.{EventsDone}
use Rattle.execution.proofs.Changes.{givable-there, givable-undone, put-here, undone-there}
use Rattle.execution.proofs.Runs.{RunLeads, leads-at, leads-of, run-append}

-- ---- events of worker 1

-- an event that a round has
abbrev IsTurn : BoardEvent → Type 0
IsTurn (Give n) = n ≡ 1
IsTurn (Work n) = n ≡ 1
IsTurn (Deliver n) = n ≡ 1
IsTurn _ = ⊥

abbrev pub AreTurns : List BoardEvent → Type 0
AreTurns [] = ⊤
AreTurns (event ∷ events) = IsTurn event × AreTurns events

turns-of-rounds : (n : ℕ) → AreTurns (rounds n)
turns-of-rounds zero = tt
turns-of-rounds (suc n) = (refl, (refl, (refl, turns-of-rounds n)))

-- the events of a run in rounds
pub listed-turns : (in_rounds : Bool) (count : ℕ) (events : List BoardEvent) → in_rounds ≡ true
    → AreTurns (listed in_rounds count events)
listed-turns true count events is = turns-of-rounds (3 * count)
listed-turns false count events is = cc

turns-taken : (n : ℕ) (events : List BoardEvent) → AreTurns events → AreTurns (take n events)
turns-taken zero events all = tt
turns-taken (suc n) [] all = tt
turns-taken (suc n) (event ∷ events) all = (all.0, turns-taken n events all.1)

turns-dropped : (n : ℕ) (events : List BoardEvent) → AreTurns events → AreTurns (drop n events)
turns-dropped zero events all = all
turns-dropped (suc n) [] all = tt
turns-dropped (suc n) (event ∷ events) all = turns-dropped n events all.1

-- ---- a job that worker 1 holds isn't done, since nobody else delivers it

abbrev HoldsUndone : Board → Hand → Type 0
HoldsUndone board Nothing = ⊤
HoldsUndone board (Holds ticket) = done_of board ticket.job ≡ false
HoldsUndone board (Made ticket bytes) = done_of board ticket.job ≡ false

module _ {old new : State} {hand now : Hand} where
  undone-given : GiveStep old hand new now → HoldsUndone old.board hand → HoldsUndone new.board now
  undone-given (Gives k h can n m) held =
      rw (n, m) (put-here old.board k (record (job_at old.board k) { standing = Out; given = (job_at old.board k).given + 1 })
      (givable-undone old.board k can))
  undone-given (NoneLeft h none n m) held = rw (n, m) held
  undone-given (w.Busy h n m) held = rw (n, m) held

  undone-worked : {jobs : Jobs} → WorkStep jobs old hand new now → HoldsUndone old.board hand
      → HoldsUndone new.board now
  undone-worked (Makes t h n m) held = rw (n, m) (rw h at held)
  undone-worked (CantMake t failures h r n m) held = rw m tt
  undone-worked (HasNoJob h n m) held = rw (n, m) held

  undone-delivered : {marks : Bool} {jobs : Jobs} → DeliverStep marks jobs old hand new now
      → HoldsUndone old.board hand → HoldsUndone new.board now
  undone-delivered (HasNoBytes h n m) held = rw (n, m) held
  undone-delivered (Delivers t bytes files h cur puts n m) held = rw m tt
  undone-delivered (CantWrite t bytes files failures h cur puts r n m) held = rw m tt
  undone-delivered (CantMark t bytes files failures on h cur puts r n m) held = rw m tt
  undone-delivered (IsStale t bytes h cur n m) held = rw m tt

-- what worker 1 has after its own step
first-hand : (old new : ℕ → Hand) (number : ℕ) (now : Hand) → number ≡ 1 → new ≡ with_hand old number now → new 1 ≡ now
first-hand old new number now is same = rw (same, is) refl

module _ (marks : Bool) (jobs : Jobs) where
  undone-step : (old : World) (event : BoardEvent) (new : World) → IsTurn event → BoardStep marks jobs old event new
      → HoldsUndone old.state.board (old.hands 1) → HoldsUndone new.state.board (new.hands 1)
  undone-step old (Give n) new is s held = rw (first-hand old.hands new.hands n s.0 is s.2)
      (undone-given s.1 (rw is held))
  undone-step old (Work n) new is s held = rw (first-hand old.hands new.hands n s.0 is s.2)
      (undone-worked s.1 (rw is held))
  undone-step old (Deliver n) new is s held = rw (first-hand old.hands new.hands n s.0 is s.2)
      (undone-delivered s.1 (rw is held))
  undone-step old _ new is s held = absurd is

  undone-run : (events : List BoardEvent) → AreTurns events → (old new : World) → BoardRun marks jobs old events new
      → HoldsUndone old.state.board (old.hands 1) → HoldsUndone new.state.board (new.hands 1)
  undone-run [] all old new run held = rw run held
  undone-run (event ∷ events) all old new run held =
      go (is_none old.state.ended) run (λ mid s rest. undone-run events all.1 mid new rest
      (undone-step old event mid all.0 s held))
    where
      go : (b : Bool)
          → MatchBool b ((mid : World) × BoardStep marks jobs old event mid × BoardRun marks jobs mid events new)
          (new ≡ old)
          → ((mid : World) → BoardStep marks jobs old event mid → BoardRun marks jobs mid events new
          → HoldsUndone new.state.board (new.hands 1)) → HoldsUndone new.state.board (new.hands 1)
      go true s f = f s.0 s.1 s.2
      go false s f = rw s held

-- ---- once all jobs are done

-- nothing can be given
none-left : (board : Board) → is_finished board ≡ true → (k : ℕ) → can_give board k ≡ false
none-left board all k = go (can_give board k) refl
  where
    go : (b : Bool) → can_give board k ≡ b → can_give board k ≡ false
    go false e = e
    go true e = cc (finished_done board all k (givable-there board k e), givable-undone board k e)

-- so worker 1 holds nothing
hand-empty : (board : Board) (hand : Hand) → is_finished board ≡ true → HoldsUndone board hand → hand ≡ Nothing
hand-empty board Nothing all held = refl
hand-empty board (Holds t) all held = cc (finished_done board all t.job (undone-there board t.job held), held)
hand-empty board (Made t bytes) all held = cc (finished_done board all t.job (undone-there board t.job held), held)

-- a hand that stays empty
same-hands : (hands : ℕ → Hand) (number : ℕ) → hands number ≡ Nothing → hands ≡ with_hand hands number Nothing
same-hands hands number empty = fun_ext (λ v. elim (eqb_tells v number) [
  | inl e ↦ rw (e.0, e.1) empty
  | inr e ↦ rw e.0 refl
])

module _ (marks : Bool) (jobs : Jobs) (world : World) (all : is_finished world.state.board ≡ true)
    (empty : world.hands 1 ≡ Nothing) (none : world.state.ended ≡ None) where
  idle-step : (event : BoardEvent) → IsTurn event → BoardStep marks jobs world event world
  idle-step (Give n) is = rw is (
    Nothing,
    NoneLeft empty (none-left world.state.board all) refl (sym empty),
    same-hands
        world.hands 1 empty,
  )
  idle-step (Work n) is = rw is (
    Nothing,
    HasNoJob (λ t e. cc (empty, e)) refl (sym empty),
    same-hands
        world.hands 1 empty,
  )
  idle-step (Deliver n) is = rw is (
    Nothing,
    HasNoBytes (λ t bytes e. cc (empty, e)) refl (sym empty),
    same-hands
        world.hands 1 empty,
  )
  idle-step _ is = absurd is

  idle-run : (events : List BoardEvent) → AreTurns events → BoardRun marks jobs world events world
  idle-run [] turns = refl
  idle-run (event ∷ events) turns = subst (λ b. MatchBool b
      ((mid : World) × BoardStep marks jobs world event mid × BoardRun marks jobs mid events world) (world ≡ world))
      (sym (ap is_none none)) (world, idle-step event turns.0, idle-run events turns.1)

-- so a run that ended then is one of all events
run-on : (marks : Bool) (jobs : Jobs) (events : List BoardEvent) (count : ℕ) {a b : State} {had has : ℕ → Hand}
    → RunLeads marks jobs (take count events) a had b has → b.ended ≡ None → is_finished b.board ≡ true
    → had 1 ≡ Nothing → AreTurns events → RunLeads marks jobs events a had b has
run-on marks jobs events count {a = a} {b = b} {had = had} {has = has} lead none all empty turns =
    let run = leads-at lead in
    let held = undone-run marks jobs (take count events) (turns-taken count events turns) _ _ run (rw empty tt) in
    subst (λ (es : List BoardEvent). RunLeads marks jobs es a had b has) (take-append-drop count events)
    (leads-of (run-append marks jobs (take count events) (drop count events) _ _ _ run none
    (idle-run marks jobs _ all (hand-empty b.board (has 1) all held) none (drop count events)
    (turns-dropped count events turns))))

-- rounds that were left out because all jobs were done are as good as done
pub all-events : {Begins : Files → Type 0} {events : List BoardEvent} {old : Snapshot} {had : ℕ → Hand} {board : Board}
    {files : Files} {shelf_failures bench_failures stale count : ℕ}
    → EventsDone Begins events old had board files shelf_failures bench_failures stale count None
    → is_finished board ≡ true → had 1 ≡ Nothing → (count ≡ length events) ⊎ AreTurns events
    → EventsDone Begins events old had board files shelf_failures bench_failures stale (length events) None
all-events {events = events} {old = old} {board = board} {count = count} done all empty how = record {
  laid = done.laid;
  begins = done.begins;
  few = omega arith;
  hands = done.hands;
  run = rw (take_all (length events) events (omega arith)) (elim how [
    | inl whole ↦ rw (whole, take_all (length events) events (omega arith)) at done.run
    | inr turns ↦ run-on old.plan.marks _ events count done.run refl all empty turns
  ]);
  filled = done.filled;
  complete = done.complete;
  laws = done.laws;
}
