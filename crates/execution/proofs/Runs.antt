-- Runs: what holds along them, one after the other, and steps of one worker among many.
use Rattle.std.proofs.Common.{◌≡◌, ◌≢◌, ◌∙◌, ℕ, Bool, true, false, MatchBool, is_none, Option, None, Some, List, [], ◌∷◌, ◌++◌, refl, sym, ap, subst, inl, inr}
use Rattle.std.proofs.lemmas.Bool.Decides.{eqb_tells}
use mathlib.Core.Path.{fun_ext, subst₂}
use Rattle.job_terms.specs.declared.BoardEvent.{BoardEvent}
use Rattle.job_terms.specs.Workers.{Jobs, End, Hand, State, World, BoardStep, BoardRun, HandStep, with_hand}
use Rattle.execution.specs.Worlds.{Leads}

ended-none : (ended : Option End) → is_none ended ≡ true → ended ≡ None
ended-none None e = refl
ended-none (Some end) e = cc

-- what each event keeps is kept along a run
pub run-holds : (P : World → Type 0) (marks : Bool) (jobs : Jobs)
    → ((old : World) (event : BoardEvent) (new : World) → old.state.ended ≡ None
    → BoardStep marks jobs old event new → P old → P new)
    → (events : List BoardEvent) (old new : World) → BoardRun marks jobs old events new → P old → P new
run-holds P marks jobs step [] old new run holds = subst P (sym run) holds
run-holds P marks jobs step (event ∷ events) old new run holds =
    go (is_none old.state.ended) refl run (λ mid none s rest. run-holds P marks jobs step events mid new rest
    (step old event mid none s holds))
  where
    go : (b : Bool) → is_none old.state.ended ≡ b
        → MatchBool b ((mid : World) × BoardStep marks jobs old event mid × BoardRun marks jobs mid events new)
        (new ≡ old)
        → ((mid : World) → old.state.ended ≡ None → BoardStep marks jobs old event mid
        → BoardRun marks jobs mid events new → P new) → P new
    go true e s f = f s.0 (ended-none old.state.ended e) s.1 s.2
    go false e s f = subst P (sym s) holds

-- one run after another
pub run-append : (marks : Bool) (jobs : Jobs) (events more : List BoardEvent) (old mid new : World)
    → BoardRun marks jobs old events mid → mid.state.ended ≡ None → BoardRun marks jobs mid more new
    → BoardRun marks jobs old (events ++ more) new
run-append marks jobs [] more old mid new run none rest = rw run at rest
run-append marks jobs (first ∷ events) more old mid new run none rest =
    go (is_none old.state.ended) refl run (λ m r. run-append marks jobs events more m mid new r none rest)
  where
    go : (b : Bool) → is_none old.state.ended ≡ b
        → MatchBool b ((m : World) × BoardStep marks jobs old first m × BoardRun marks jobs m events mid) (mid ≡ old)
        → ((m : World) → BoardRun marks jobs m events mid → BoardRun marks jobs m (events ++ more) new)
        → MatchBool b ((m : World) × BoardStep marks jobs old first m × BoardRun marks jobs m (events ++ more) new)
        (new ≡ old)
    go true e r ih = (r.0, r.1, ih r.0 r.2)
    go false e r ih = cc (ap (λ (w : World). is_none w.state.ended) r)

-- ---- where a step leads, by the worlds of these very states and hands

abbrev pub world_of : State → (ℕ → Hand) → World
world_of state hands = record { state = state; hands = hands }

-- from one to the other
pub leads-of : {step : World → World → Type 0} {old new : State} {had has : ℕ → Hand}
    → step (world_of old had) (world_of new has) → Leads step old had new has
leads-of {step = step} {new = new} {has = has} taken = record {
  leads = λ world at. (
    world_of new has,
    subst₂ (λ s h. step (world_of s h) (world_of new has)) (sym at.state_is) (sym (fun_ext at.hands_are)) taken,
    record { state_is = refl; hands_are = λ v. refl },
  );
}

-- and back
pub leads-at : {step : World → World → Type 0} {old new : State} {had has : ℕ → Hand} → Leads step old had new has
    → step (world_of old had) (world_of new has)
leads-at {step = step} {old = old} {had = had} lead =
    let r = lead.leads (world_of old had) (record { state_is = refl; hands_are = λ v. refl }) in
    subst₂ (λ s h. step (world_of old had) (world_of s h)) r.2.state_is (fun_ext r.2.hands_are) r.1

-- these events lead from one to the other
abbrev pub RunLeads : Bool → Jobs → List BoardEvent → State → (ℕ → Hand) → State → (ℕ → Hand) → Type 0
RunLeads marks jobs events = Leads (λ world next. BoardRun marks jobs world events next)

-- a step is a run of one event
pub leads-one : (marks : Bool) (jobs : Jobs) (event : BoardEvent) {old new : State} {had has : ℕ → Hand}
    → old.ended ≡ None → BoardStep marks jobs (world_of old had) event (world_of new has)
    → RunLeads marks jobs (event ∷ []) old had new has
leads-one marks jobs event {old = old} {new = new} {had = had} {has = has} none step = leads-of (subst (λ b. MatchBool b
    ((mid : World) × BoardStep marks jobs (world_of old had) event mid × (world_of new has ≡ mid))
    (world_of new has ≡ world_of old had)) (sym (ap is_none none)) (world_of new has, step, refl))

-- ---- one worker among many

-- of these hands one worker's was this, and is that now
pub record TurnsHand (old : ℕ → Hand) (number : ℕ) (hand now : Hand) (new : ℕ → Hand) : Type 0 where
  pub was : hand ≡ old number
  pub after : (v : ℕ) → new v ≡ with_hand old number now v

-- a step of one worker, from its own hand
pub hand-step : (step : State → Hand → State → Hand → Type 0) (old new : State) {number : ℕ} {had has : ℕ → Hand}
    {hand now : Hand} → TurnsHand had number hand now has → step old hand new now
    → HandStep step (world_of old had) number (world_of new has)
hand-step step old new {now = now} turned taken =
    (now, subst (λ h. step old h new now) turned.was taken, fun_ext turned.after)

-- the hands after one worker was given a place, taken out and put back
pub hand-placed : {old placed taken new : ℕ → Hand} {number : ℕ} {hand now : Hand} → ((v : ℕ) → placed v ≡ old v)
    → hand ≡ placed number → ((v : ℕ) → v ≢ number → taken v ≡ placed v)
    → ((v : ℕ) → new v ≡ with_hand taken number now v) → TurnsHand old number hand now new
hand-placed {number = number} same is others put = record {
  was = is ∙ same number;
  after = λ v. put v ∙ elim (eqb_tells v number) [
    | inl e ↦ rw e.0
    | inr e ↦ rw e.0 (others v e.1 ∙ same v)
  ];
}

-- a worker that was taken out and put back as it was
pub hand-back : {old new : ℕ → Hand} {number : ℕ} {hand : Hand} → TurnsHand old number hand hand new → (v : ℕ)
    → new v ≡ old v
hand-back {old = old} {number = number} turned v = turned.after v ∙ elim (eqb_tells v number) [
  | inl e ↦ rw e.0 (turned.was ∙ ap old (sym e.1))
  | inr e ↦ rw e.0
]
