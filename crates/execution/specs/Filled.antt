-- The outputs along a run: which of their bytes are right already.
use Rattle.std.specs.Prelude.{◌≡◌, ◌≢◌, ◌⊎◌, ℕ, ◌+◌, ◌<◌, ◌≤◌, Bool, true, ⊤, Option, Some, List, length, slice_index_or}
use Rattle.work_terms.specs.Disk.{Files}
use Rattle.job_terms.specs.Workers.{Jobs, Hand, Nothing, Holds, Made, State, World}
use Rattle.execution.specs.Marking.{done_of}

-- no job of this file that isn't done has this byte
abbrev pub IsFixedIn : Jobs → List ℕ → (ℕ → Bool) → ℕ → Type 0
IsFixedIn jobs name done i = (k : ℕ) → k < jobs.count → jobs.name k ≡ name → jobs.at k ≤ i
    → i < jobs.at k + length (jobs.bytes k) → done k ≡ true

-- the file has the length of the whole one, and each byte that no open job has is right
pub record IsFilled (jobs : Jobs) (name whole : List ℕ) (done : ℕ → Bool) (file : Option (List ℕ)) : Type 0 where
  pub bytes : List ℕ
  pub there : file ≡ Some bytes
  pub size : length bytes ≡ length whole
  pub same : (i : ℕ) → IsFixedIn jobs name done i → slice_index_or bytes i 0 ≡ slice_index_or whole i 0

-- the job's bytes are those of the whole file at its place
pub record IsPartOf (jobs : Jobs) (k : ℕ) (whole : List ℕ) : Type 0 where
  pub inside : jobs.at k + length (jobs.bytes k) ≤ length whole
  pub part : (i : ℕ) → i < length (jobs.bytes k) → slice_index_or (jobs.bytes k) i 0 ≡ slice_index_or whole
      (jobs.at k + i) 0

-- each output is filled as far as its jobs are done
pub record AreFilled (jobs : Jobs) (whole : List ℕ → List ℕ) (done : ℕ → Bool) (files : Files) : Type 0 where
  pub each : (j : ℕ) → j < jobs.count → IsFilled jobs (jobs.name j) (whole (jobs.name j)) done (files (jobs.name j))

-- a ticket of the work, with its job's bytes
abbrev pub IsGoodHand : Jobs → Hand → Type 0
IsGoodHand jobs Nothing = ⊤
IsGoodHand jobs (Holds ticket) = ticket.job < jobs.count
IsGoodHand jobs (Made ticket bytes) = (ticket.job < jobs.count) × (bytes ≡ jobs.bytes ticket.job)

-- a board of these jobs, and outputs that are filled as far as they are done
pub record IsGood (jobs : Jobs) (whole : List ℕ → List ℕ) (state : State) : Type 0 where
  pub board : length state.board.jobs ≡ jobs.count
  pub filled : AreFilled jobs whole (done_of state.board) state.files

-- and nothing but right bytes in the hands
pub record IsSound (jobs : Jobs) (whole : List ℕ → List ℕ) (world : World) : Type 0 where
  pub good : IsGood jobs whole world.state
  pub hands : (w : ℕ) → IsGoodHand jobs (world.hands w)

-- each job's bytes are a part of its whole file
abbrev pub AreParts : Jobs → (List ℕ → List ℕ) → Type 0
AreParts jobs whole = (k : ℕ) → k < jobs.count → IsPartOf jobs k (whole (jobs.name k))

-- the places of two jobs of one file don't meet
abbrev pub AreApart : Jobs → Type 0
AreApart jobs = (j k : ℕ) → j < jobs.count → k < jobs.count → j ≢ k → jobs.name j ≡ jobs.name k
    → (jobs.at j + length (jobs.bytes j) ≤ jobs.at k) ⊎ (jobs.at k + length (jobs.bytes k) ≤ jobs.at j)
