-- What a work notes of its jobs, and that a run loses nothing of it.
use Rattle.std.specs.Prelude.{◌≡◌, ◌⊎◌, ℕ, Bool, true, IsTrue, ⊤}
use Rattle.work_terms.specs.Disk.{Files}
use Rattle.devices.specs.Views.{SourceView}
use Rattle.job_terms.specs.Board.{Board}
use Rattle.job_terms.specs.Workers.{Hand, Holds, Made, Nothing}
use Rattle.execution.specs.Marking.{done_of}

-- a work is still each that it was
abbrev pub StillIs : {W : Type 0} → (W → W → Type 0) → W → W → Type 0
StillIs {W = W} remains old new = (first : W) → remains first old → remains first new

-- it still has noted what it had, whatever the sources hold
abbrev pub StillNoted : {W : Type 0} → (W → Files → ℕ → Type 0) → W → W → Type 0
StillNoted noted old new = (sources : Files) (k : ℕ) → noted old sources k → noted new sources k

-- a job whose bytes were made is noted
abbrev pub IsNoted : (ℕ → Type 0) → Hand → Type 0
IsNoted noted Nothing = ⊤
IsNoted noted (Holds ticket) = ⊤
IsNoted noted (Made ticket bytes) = noted ticket.job

-- one worker's hand, by any number
abbrev pub alone : Hand → ℕ → Hand
alone hand w = hand

-- A work that was another one still is. Each job that was noted still is. Where each job that was made and isn't delivered
-- was noted, so it is afterwards, and so is each job that became done.
pub record KeepsNotes {W : Type 0} (was is : W → Type 0) (before after : ℕ → Type 0) (was_done is_done : ℕ → Bool)
    (had has : ℕ → Hand) : Type 0 where
  pub same : (first : W) → was first → is first
  pub kept : (k : ℕ) → before k → after k
  pub hands : ((w : ℕ) → IsNoted before (had w)) → (w : ℕ) → IsNoted after (has w)
  pub done : ((w : ℕ) → IsNoted before (had w)) → (k : ℕ) → is_done k ≡ true → (was_done k ≡ true) ⊎ after k

-- so a work does, between two boards and what workers hold at each, over sources that are honest
abbrev pub StaysNoted : {W : Type 0} → (W → W → Type 0) → (W → Files → ℕ → Type 0) → SourceView → W → Board → (ℕ → Hand)
    → W → Board → (ℕ → Hand) → Type 0
StaysNoted remains noted source old board had new next has = IsTrue source.honest
    → KeepsNotes (λ first. remains first old) (λ first. remains first new) (noted old source.files)
    (noted new source.files) (done_of board) (done_of next) had has
