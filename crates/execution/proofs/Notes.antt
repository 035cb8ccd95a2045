-- What is noted of jobs, along steps.
use Rattle.std.proofs.Common.{◌≡◌, ◌∙◌, ◌==◌, ℕ, Bool, true, false, cond, List, inl, inr}
use Rattle.std.proofs.lemmas.Bool.Decides.{eqb_tells}
use Rattle.job_terms.specs.declared.Ticket.{Ticket}
use Rattle.job_terms.specs.Workers.{Hand, Made, Nothing}
use Rattle.execution.specs.Together.{with_done}
use Rattle.execution.specs.Noted.{IsNoted, KeepsNotes, alone}
use Rattle.execution.proofs.Runs.{TurnsHand}

-- what was noted still is
noted-more : (P Q : ℕ → Type 0) → ((k : ℕ) → P k → Q k) → (hand : Hand) → IsNoted P hand → IsNoted Q hand
noted-more P Q f (Made ticket bytes) h = f ticket.job h
noted-more P Q f _ h = tt

module _ {W : Type 0} {F G : W → Type 0} {P Q : ℕ → Type 0} where
  -- one of many workers
  pub notes-of : {was now : ℕ → Bool} {had has : ℕ → Hand} {number : ℕ} {hand next : Hand}
      → TurnsHand had number hand next has → KeepsNotes F G P Q was now (alone hand) (alone next)
      → KeepsNotes F G P Q was now had has
  notes-of {had = had} {number = number} {next = next} turned h = record {
    same = h.same;
    kept = h.kept;
    hands = λ noted w. rw (turned.after w) (go noted w (w == number));
    done = λ noted. h.done (λ w. rw turned.was (noted number));
  }
    where
      go : ((w : ℕ) → IsNoted P (had w)) → (w : ℕ) (b : Bool) → IsNoted Q (cond b next (had w))
      go noted w true = h.hands (λ v. rw turned.was (noted number)) w
      go noted w false = noted-more P Q h.kept (had w) (noted w)

  -- the job that was made under this ticket is done
  pub notes-done : {was now : ℕ → Bool} {hand next : Hand} {ticket : Ticket} {bytes : List ℕ}
      → hand ≡ Made ticket bytes → next ≡ Nothing → ((f : W) → F f → G f) → ((k : ℕ) → P k → Q k)
      → ((k : ℕ) → with_done was ticket.job k ≡ now k) → KeepsNotes F G P Q was now (alone hand) (alone next)
  notes-done {was = was} {ticket = ticket} is gone work kept done = record {
    same = work;
    kept = kept;
    hands = λ noted w. rw gone tt;
    done = λ noted k on. elim (eqb_tells k ticket.job) [
      | inl same ↦ inr (kept k (rw same.1 (rw is at (noted 0))))
      | inr other ↦ inl (rw other.0 at (done k) ∙ on)
    ];
  }
