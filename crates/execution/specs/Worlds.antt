-- Where a step leads: from one state and hands to others.
use Rattle.std.specs.Prelude.{◌≡◌, ℕ, Bool, IsTrue, Option, List, length, Result, Ok, Err}
use Rattle.work_terms.specs.Disk.{Files, IsTorn, IsWritten}
use Rattle.job_terms.specs.Board.{Board}
use Rattle.job_terms.specs.Workers.{End, Hand, JobsBy, Puts, State, World}
use Rattle.execution.specs.declared.fault.PlaceFault.{PlaceFault}
use Rattle.execution.specs.declared.fault.PlaceFault.TheVariants.{Mark, Write}

-- the place of the job holds these bytes, or any where they weren't written; only a work with marks can fail at one
abbrev pub IsPlaced : {X : Type 0} → JobsBy → Bool → ℕ → List ℕ → Files → Files → Result X PlaceFault → Type 0
IsPlaced work marks job bytes old new (Ok _) = Puts (IsWritten (work.at job) bytes) work.name job old new
IsPlaced work marks job bytes old new (Err Write) = Puts (IsTorn (work.at job) (length bytes)) work.name job old new
IsPlaced work marks job bytes old new (Err Mark) =
    IsTrue marks × Puts (IsWritten (work.at job) bytes) work.name job old new

abbrev pub state_of : Board → Files → (stale shelf_failures bench_failures : ℕ) → Option End → State
state_of board files stale shelf_failures bench_failures ended = record {
  board = board;
  files = files;
  stale = stale;
  shelf_failures = shelf_failures;
  bench_failures = bench_failures;
  ended = ended;
}

-- the world has this state and these hands
pub record IsWorld (world : World) (state : State) (hands : ℕ → Hand) : Type 0 where
  pub state_is : world.state ≡ state
  pub hands_are : (w : ℕ) → world.hands w ≡ hands w

-- each world of the old state and hands comes by such a step to one of the new
pub record Leads (step : World → World → Type 0) (old : State) (had : ℕ → Hand) (new : State) (has : ℕ → Hand) : Type
    0 where
  pub leads : (world : World) → IsWorld world old had → (next : World) × step world next × IsWorld next new has
