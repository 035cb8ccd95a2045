-- What a worker's turns make of the board and of what it holds, whatever the stores do.
use Rattle.std.specs.Prelude.{◌≡◌, ℕ, true, false, ⊤, List, [], ◌∷◌}
use Rattle.job_terms.specs.declared.BoardEvent.{BoardEvent}
use Rattle.job_terms.specs.declared.BoardEvent.TheVariants as event
use Rattle.job_terms.specs.declared.Ticket.{Ticket}
use Rattle.job_terms.specs.Board.{Board, can_give, given_out, is_current, ticket_of}
use Rattle.job_terms.specs.Workers.{Hand, Holds, Made, Nothing}
use Rattle.execution.specs.Alone.{Turned}
use Rattle.execution.specs.declared.action.Action.{Action}
use Rattle.execution.specs.declared.action.Action.TheVariants.{Deliver, Fault, Give, Lose, Work}

-- it is given a job that can be given, or there is none
pub data Takes (board new : Board) (now : Hand) : Type 0 where
  Gets : (k : ℕ) → can_give board k ≡ true → new ≡ given_out board k → now ≡ Holds (ticket_of board k)
      → Takes board new now
  FindsNone : ((k : ℕ) → can_give board k ≡ false) → new ≡ board → now ≡ Nothing → Takes board new now

-- it makes some bytes under this ticket, or its job failed
pub data Makes (board : Board) (ticket : Ticket) (new : Board) (now : Hand) : Type 0 where
  Keeps : (bytes : List ℕ) → new ≡ board → now ≡ Made ticket bytes → Makes board ticket new now
  Fails : (is_current board ticket ≡ true → Turned board ticket new) → now ≡ Nothing → Makes board ticket new now

-- nothing is said of a worker that holds something when a job is given
abbrev pub GiveTurn : Board → Hand → Board → Hand → Type 0
GiveTurn board Nothing new now = Takes board new now
GiveTurn board (Holds ticket) new now = ⊤
GiveTurn board (Made ticket bytes) new now = ⊤

abbrev pub WorkTurn : Board → Hand → Board → Hand → Type 0
WorkTurn board Nothing new now = (new ≡ board) × (now ≡ Nothing)
WorkTurn board (Holds ticket) new now = Makes board ticket new now
WorkTurn board (Made ticket bytes) new now = (new ≡ board) × (now ≡ Made ticket bytes)

-- what it delivers under a current ticket is done, or failed
abbrev pub DeliverTurn : Board → Hand → Board → Hand → Type 0
DeliverTurn board Nothing new now = (new ≡ board) × (now ≡ Nothing)
DeliverTurn board (Holds ticket) new now = (new ≡ board) × (now ≡ Holds ticket)
DeliverTurn board (Made ticket bytes) new now =
    (is_current board ticket ≡ true → Turned board ticket new) × (now ≡ Nothing)

abbrev pub ActionTurn : Action → Board → Hand → Board → Hand → Type 0
ActionTurn Give = GiveTurn
ActionTurn Work = WorkTurn
ActionTurn Deliver = DeliverTurn
ActionTurn Fault = λ board hand new now. ⊤
ActionTurn Lose = λ board hand new now. ⊤

-- nothing is said of a fault, a loss or a job that is taken back: rounds have none
abbrev pub EventTurn : BoardEvent → Board → (ℕ → Hand) → Board → (ℕ → Hand) → Type 0
EventTurn (event.Give w) board had new has = GiveTurn board (had w) new (has w)
EventTurn (event.Work w) board had new has = WorkTurn board (had w) new (has w)
EventTurn (event.Deliver w) board had new has = DeliverTurn board (had w) new (has w)
EventTurn (event.Fault w) board had new has = ⊤
EventTurn (event.Lose w) board had new has = ⊤
EventTurn (event.Reclaim k) board had new has = ⊤

-- one event after the other, none of which ends the run
abbrev pub Turns : List BoardEvent → Board → (ℕ → Hand) → Board → (ℕ → Hand) → Type 0
Turns [] board had new has = (new ≡ board) × ((w : ℕ) → has w ≡ had w)
Turns (event ∷ events) board had new has =
    (mid : Board) × (held : ℕ → Hand) × EventTurn event board had mid held × Turns events mid held new has
