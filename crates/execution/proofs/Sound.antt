-- What holds along each run: right bytes in the hands, outputs filled as far as their jobs are done, and the laws.
use Rattle.std.proofs.Common.{◌≡◌, ◌≢◌, ◌∙◌, ◌⊎◌, ℕ, ◌<◌, Bool, true, false, Option, None, List, length, length-set, refl, sym, ap, subst, inl, inr, ◌+◌, ◌≤◌, take, drop, arith}
use Rattle.std.proofs.lemmas.Slice.Eq.{bytes_eq-Decides}
use Rattle.std.specs.Str.{bytes_eq}
use mathlib.Core.Path.{fun_ext, subst₂}
use Rattle.work_terms.specs.Disk.{Files}
use Rattle.job_terms.specs.declared.BoardEvent.{BoardEvent}
use Rattle.job_terms.specs.Board.{Board}
use Rattle.job_terms.specs.Workers.{BoardRun, BoardStep, Hand, Jobs, Nothing, Puts, State, World, DonePlaces}
use Rattle.execution.specs.Filled.{AreFilled, AreParts, IsFilled, IsGood, IsGoodHand, IsSound, AreApart, IsFixedIn}
use Rattle.execution.specs.Marking.{IsRight, done_of}
use Rattle.execution.proofs.Changes.{Alike, Change, IsAlike, Placed, Torn, change-keeps, change-of, current-undone, givable-there, hands-hold, put-other, HasFailed, change-failed}
use Rattle.execution.proofs.Fills.{filled-torn, filled-written}
use Rattle.execution.proofs.Runs.{RunLeads, leads-at, run-holds}
use Rattle.std.proofs.lemmas.Bool.{cases_eq}
use Rattle.std.proofs.lemmas.List.{ext_get_or, get_or-drop, get_or-take, length-drop, length-take-le}
use Rattle.execution.specs.Laws.{IsSettled, KeepsLaws, with_no_hands}

-- names are the same, or they aren't
names : (a b : List ℕ) → (a ≡ b) ⊎ (a ≢ b)
names a b = go (bytes_eq a b) refl
  where
    go : (t : Bool) → bytes_eq a b ≡ t → (a ≡ b) ⊎ (a ≢ b)
    go true e = inl ((bytes_eq-Decides a b).0 e)
    go false e = inr (λ h. cc (e, (bytes_eq-Decides a b).1 h))

-- one job's place is written: its file is filled as this step fills it, every other as before
filled-put : {step : Option (List ℕ) → Option (List ℕ) → Type 0} (jobs : Jobs) (whole : List ℕ → List ℕ)
    (done more : ℕ → Bool) (k : ℕ) (old new : Files) → Puts step jobs.name k old new
    → ((i : ℕ) → i ≢ k → more i ≡ true → done i ≡ true)
    → (IsFilled jobs (jobs.name k) (whole (jobs.name k)) done (old (jobs.name k))
    → step (old (jobs.name k)) (new (jobs.name k))
    → IsFilled jobs (jobs.name k) (whole (jobs.name k)) more (new (jobs.name k)))
    → AreFilled jobs whole done old → AreFilled jobs whole more new
filled-put jobs whole done more k old new puts off here filled = record {
  each = λ j lt. elim (names (jobs.name j) (jobs.name k)) [
    | inl e ↦ rw e (here (rw e at (filled.each j lt)) puts.here)
    | inr ne ↦ let f = filled.each j lt in rw (puts.others j ne) (record {
      bytes = f.bytes;
      there = f.there;
      size = f.size;
      same = λ i fixed. f.same i
          (λ n below named from to. off n (λ is. ne (sym named ∙ ap jobs.name is)) (fixed n below named from to));
    })
  ];
}

module _ (jobs : Jobs) (whole : List ℕ → List ℕ) (parts : AreParts jobs whole) where
  -- another board with the same jobs done
  good-as : (old new : State) → IsAlike old new → IsGood jobs whole old → IsGood jobs whole new
  good-as old new a good = record {
    board = a.size ∙ good.board;
    filled = record {
      each = subst₂ (λ d f. (j : ℕ) → j < jobs.count
          → IsFilled jobs (jobs.name j) (whole (jobs.name j)) d (f (jobs.name j))) (sym (fun_ext a.done)) (sym a.kept)
          good.filled.each;
    };
  }

  -- what an event makes of files that are filled so
  change-good : (old new : State) (hand : Hand) → Change jobs old hand new → IsGoodHand jobs hand
      → IsGood jobs whole old → IsGood jobs whole new
  change-good old new hand (Alike a) made good = good-as old new a good
  change-good old new hand (Torn t bytes files h cur puts a) held good =
      let made = rw h at held in good-as (record old { files = files }) new a (record {
        board = good.board;
        filled = filled-put jobs whole (done_of old.board) (done_of old.board) t.job old.files files
            (rw made.1 at puts) (λ i ne on. on)
            (filled-torn jobs _ _ (done_of old.board) t.job _ _ made.0 refl (current-undone old.board t cur))
            good.filled;
      })
  change-good old new hand (Placed t bytes h cur puts is failed) held good = let made = rw h at held in record {
    board = rw is (length-set old.board.jobs t.job _ ∙ good.board);
    filled = filled-put jobs whole (done_of old.board) (done_of new.board) t.job old.files new.files
        (rw made.1 at puts) off (filled-written jobs _ _ (done_of old.board) (done_of new.board) t.job _ _
        (parts t.job made.0) off) good.filled;
  }
    where
      off : (i : ℕ) → i ≢ t.job → done_of new.board i ≡ true → done_of old.board i ≡ true
      off i ne on = sym (ap (λ (b : Board). done_of b i) is ∙ put-other old.board t.job _ i ne) ∙ on

  -- one event, and a run of them
  step-sound : (marks : Bool) (old : World) (event : BoardEvent) (new : World) → old.state.ended ≡ None
      → BoardStep marks jobs old event new → IsSound jobs whole old → IsSound jobs whole new
  step-sound marks old event new none s sound = record {
    good = let c = change-of marks jobs old event new s in
        change-good old.state new.state (old.hands c.0) c.1 (sound.hands c.0) sound.good;
    hands = hands-hold (IsGoodHand jobs) tt marks jobs (λ t lt. (lt, refl)) old event new
        (λ k can. subst (λ n. k < n) sound.good.board (givable-there old.state.board k can)) s sound.hands;
  }

  pub run-sound : (marks : Bool) (events : List BoardEvent) (old new : World) → BoardRun marks jobs old events new
      → IsSound jobs whole old → IsSound jobs whole new
  run-sound marks = run-holds (IsSound jobs whole) marks jobs (step-sound marks)

-- what is done stays done
pub run-keeps : (marks : Bool) (jobs : Jobs) (events : List BoardEvent) (old new : World)
    → BoardRun marks jobs old events new → (j : ℕ) → done_of old.state.board j ≡ true → done_of new.state.board j ≡ true
run-keeps marks jobs events old new run j = run-holds (λ x. done_of x.state.board j ≡ true) marks jobs
    (λ before event after none s. change-keeps (change-of marks jobs before event after s).1 j) events old new run

-- ---- where runs lead

module _ (marks : Bool) (jobs : Jobs) (events : List BoardEvent) {old new : State} {had has : ℕ → Hand}
    (lead : RunLeads marks jobs events old had new has) where
  pub leads-keeps : (j : ℕ) → done_of old.board j ≡ true → done_of new.board j ≡ true
  leads-keeps = run-keeps marks jobs events _ _ (leads-at lead)

  -- what was made stays right
  pub leads-right : ((v : ℕ) → IsRight jobs (had v)) → (v : ℕ) → IsRight jobs (has v)
  leads-right = run-holds (λ x. (v : ℕ) → IsRight jobs (x.hands v)) marks jobs
      (λ before event after none. hands-hold (IsRight jobs) tt marks jobs (λ t holds. refl) before event after
      (λ k can. tt)) events _ _ (leads-at lead)

  -- from hands that hold nothing
  pub leads-good : (whole : List ℕ → List ℕ) → AreParts jobs whole → ((v : ℕ) → had v ≡ Nothing)
      → IsGood jobs whole old → IsGood jobs whole new
  leads-good whole parts idle good = (run-holds (IsSound jobs whole) marks jobs (step-sound jobs whole parts marks)
      events _ _ (leads-at lead) (record { good = good; hands = λ v. rw (idle v) tt })).good

-- ---- the laws

module _ (jobs : Jobs) (whole : List ℕ → List ℕ) (parts : AreParts jobs whole) (apart : AreApart jobs) where
  -- the places of what is done hold their bytes
  places-done : (state : State) → IsGood jobs whole state → DonePlaces jobs state
  places-done state good k lt on =
      let f = good.filled.each k lt in
      let p = parts k lt in
      let n = length (jobs.bytes k) in
      let inside : jobs.at k + n ≤ length f.bytes = omega (arith, p.inside, f.size) in
      let left : n ≤ length (drop (jobs.at k) f.bytes) = omega (arith, inside, length-drop (jobs.at k) f.bytes) in
      record {
        file = f.bytes;
        there = f.there;
        inside = inside;
        same = ext_get_or 0 (jobs.bytes k) (take n (drop (jobs.at k) f.bytes))
            (sym (length-take-le n (drop (jobs.at k) f.bytes) left))
            (λ i less. rw (get_or-take n (drop (jobs.at k) f.bytes) i 0 less, get_or-drop (jobs.at k) f.bytes i 0)
            (p.part i less ∙ sym (f.same (jobs.at k + i) (fixed i less))));
      }
    where
      fixed : (i : ℕ) → i < length (jobs.bytes k) → IsFixedIn jobs (jobs.name k) (done_of state.board) (jobs.at k + i)
      fixed i less j below named from to = elim (cases_eq j k) [
        | inl e ↦ ap (done_of state.board) e ∙ on
        | inr ne ↦ absurd (elim (apart j k below lt ne named) [
          | inl before ↦ omega (arith, before, to)
          | inr behind ↦ omega (arith, behind, from, less)
        ])
      ]

  -- what is done stays done
  settled-after : (marks : Bool) (first second : List BoardEvent) (start mid end : World) → IsSound jobs whole start
      → BoardRun marks jobs start first mid → BoardRun marks jobs mid second end → IsSettled jobs mid.state end.state
  settled-after marks first second start mid end sound one other =
      let here = run-sound jobs whole parts marks first start mid one sound in
      let there = run-sound jobs whole parts marks second mid end other here in record {
        stays = λ k lt. run-keeps marks jobs second mid end other k;
        before = places-done mid.state here.good;
        after = places-done end.state there.good;
      }

  -- all of it, where these are the first of the events
  pub laws-kept : (marks : Bool) (events first : List BoardEvent) {old new : State} {had has : ℕ → Hand}
      → RunLeads marks jobs first old had new has → ((v : ℕ) → had v ≡ Nothing) → old.ended ≡ None
      → IsGood jobs whole old → KeepsLaws marks jobs events old new
  laws-kept marks events first {old = old} {new = new} lead idle none good = record {
    done_places = places-done new (leads-good marks jobs first lead whole parts idle good);
    settled = λ fewer more le mid end one other. settled-after marks (take fewer events)
        (drop fewer (take more events)) (with_no_hands old) mid end (record { good = good; hands = λ v. tt }) one other;
    given_up = run-holds (λ x. HasFailed x.state.board x.state.ended) marks jobs
        (λ before event after none s failed. change-failed (change-of marks jobs before event after s).1 none)
        first _ _ (leads-at lead) (λ job e. cc);
  }
