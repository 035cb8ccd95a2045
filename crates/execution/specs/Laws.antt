-- What each run of jobs whose places are apart keeps to, whatever its events.
use Rattle.std.specs.Prelude.{◌≡◌, ℕ, ◌<◌, ◌≤◌, Bool, true, Some, List, take, drop}
use Rattle.job_terms.specs.declared.BoardEvent.{BoardEvent}
use Rattle.job_terms.specs.Board.{job_at}
use Rattle.job_terms.specs.Workers.{BoardRun, DonePlaces, GivenUp, Jobs, Nothing, State, World}
use Rattle.execution.specs.Marking.{done_of}

-- no worker holds anything
abbrev pub with_no_hands : State → World
with_no_hands state = record { state = state; hands = λ _. Nothing }

-- what is done in the first state is done in the second, and in both its place holds its bytes
pub record IsSettled (jobs : Jobs) (first second : State) : Type 0 where
  pub stays : (k : ℕ) → k < jobs.count → done_of first.board k ≡ true → done_of second.board k ≡ true
  pub before : DonePlaces jobs first
  pub after : DonePlaces jobs second

-- The place of each job that is done at last holds its bytes; what is done after some of the events stays so after any
-- more of them; and a job that the run gave up has failed three times.
pub record KeepsLaws (marks : Bool) (jobs : Jobs) (events : List BoardEvent) (start last : State) : Type 0 where
  pub done_places : DonePlaces jobs last
  pub settled : (fewer more : ℕ) → fewer ≤ more → (mid end : World)
      → BoardRun marks jobs (with_no_hands start) (take fewer events) mid
      → BoardRun marks jobs mid (drop fewer (take more events)) end → IsSettled jobs mid.state end.state
  pub given_up : (job : ℕ) → last.ended ≡ Some (GivenUp job) → 3 ≤ (job_at last.board job).faults
