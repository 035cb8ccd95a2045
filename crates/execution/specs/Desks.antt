-- What a worker holds, and for how many bytes it has room.
use Rattle.std.specs.Prelude.{◌≡◌, ◌<◌, ◌≤◌, ℕ, Option, Some, None, length}
use Rattle.job_terms.specs.declared.Ticket.{Ticket}
use Rattle.job_terms.specs.Workers.{Hand, Holds, JobsBy, Made, Nothing}

-- the ticket is one of the work's, and what was made has the length of its job
abbrev pub FitsHand : JobsBy → Hand → Type 0
FitsHand work Nothing = Unit {0}
FitsHand work (Holds ticket) = ticket.job < work.count
FitsHand work (Made ticket bytes) = (ticket.job < work.count) × (length bytes ≡ work.size ticket.job)

-- a worker's hand, and for how many bytes it has room
pub record Desk : Type 0 where
  pub hand : Hand
  pub room : ℕ

abbrev pub held : Option Desk → Hand
held None = Nothing
held (Some desk) = desk.hand

-- the job whose ticket it holds
abbrev pub job_of : Hand → Option ℕ
job_of Nothing = None
job_of (Holds ticket) = Some ticket.job
job_of (Made ticket bytes) = Some ticket.job

-- each job's bytes fit
abbrev pub HasRoom : JobsBy → ℕ → Type 0
HasRoom work room = (k : ℕ) → k < work.count → work.size k ≤ room

-- the bytes of the job that it holds fit
abbrev pub FitsRoom : JobsBy → Desk → Type 0
FitsRoom work desk = (ticket : Ticket) → desk.hand ≡ Holds ticket → work.size ticket.job ≤ desk.room
