-- What each worker holds.
use Rattle.std.specs.Prelude.{◌≡◌, ◌<◌, ◌+◌, ◌^◌, ℕ, ◌==◌, ◌||◌, Bool, cond, is_some, length}
use Rattle.std.specs.Ordering.{nat_cmp}
use Rattle.std.specs.BTreeMap.{get}
use Rattle.job_terms.specs.Board.{Board}
use Rattle.job_terms.specs.Workers.{Hand, JobsBy, Nothing}
use Rattle.execution.specs.Desks.{FitsHand, HasRoom, held}
use Rattle.execution.specs.Plan.{JobPlan}
use Rattle.execution.specs.declared.hands.Hands.{Hands}
use Rattle.execution.specs.declared.workshop.Workshop.{Workshop}

-- the worker 1 has its place from the start
abbrev pub hands_in : Hands → ℕ → Hand
hands_in hands w = cond (w == 1) hands.first.hand (held (get nat_cmp hands.others w))

abbrev pub has_place : Hands → ℕ → Bool
has_place hands w = (w == 1) || is_some (get nat_cmp hands.others w)

-- no worker holds anything
abbrev pub AreIdle : Hands → Type 0
AreIdle hands = (w : ℕ) → hands_in hands w ≡ Nothing

-- a board of these jobs, and a worker that holds nothing but one of its tickets
pub record IsAtWork (jobs : JobsBy) (board : Board) (hand : Hand) : Type 0 where
  pub whole : length board.jobs ≡ jobs.count
  pub fits : FitsHand jobs hand

-- a board of these jobs, and workers that hold nothing but their tickets; the worker 1 has room for each job
pub record IsReady (jobs : JobsBy) (board : Board) (hands : Hands) : Type 0 where
  pub whole : length board.jobs ≡ jobs.count
  pub fits : (w : ℕ) → FitsHand jobs (hands_in hands w)
  pub room : HasRoom jobs hands.first.room

-- so it is of a workshop, by what its work plans
abbrev pub IsWorkshop : {W : Type 0} → (W → JobPlan) → Workshop W → Type 0
IsWorkshop plan shop = IsReady (plan shop.work).jobs shop.board shop.hands

-- and one more delivery under a stale ticket can be counted
pub record MayStep {W : Type 0} (plan : W → JobPlan) (shop : Workshop W) (stale : ℕ) : Type 0 where
  pub ready : IsWorkshop plan shop
  pub few : stale + 1 < 2 ^ 64
