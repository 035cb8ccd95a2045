-- Lemmas on single steps.
use Rattle.std.proofs.Common.{◌≡◌, ◌∙◌, ℕ, ◌≤◌, Bool, true, false, cond, Option, Some, None, Result, Ok, Err, List, [], ◌∷◌, ◌++◌, take, is_some, length, refl, sym, ap, arith}
use Rattle.std.proofs.Math.Seq.{take-append_seam}
use Rattle.job_terms.specs.declared.Ticket.{Ticket}
use Rattle.job_terms.specs.Board.{first_in}
use Rattle.job_terms.specs.Workers.{FaultStep, Hand, MarkFailed, Nothing, State, after_fault, hand_of}
use Rattle.work_terms.specs.Disk.{HasCause, Rises}
use Rattle.std.specs.Prelude.{IsErrOf}
use Rattle.execution.specs.Desks.{Desk}
use Rattle.execution.specs.Ends.{ended_of}
use Rattle.execution.specs.declared.fault.JobFault.{JobFault}
use Rattle.execution.specs.declared.fault.JobFault.TheVariants.{GivenUp, Mark}

-- what is found passes
pub first-passes : (test : ℕ → Bool) (xs : List ℕ) (k : ℕ) → first_in test xs ≡ Some k → test k ≡ true
first-passes test [] k e = cc
first-passes test (x ∷ xs) k e = go (test x) refl e (first-passes test xs k)
  where
    go : (b : Bool) → test x ≡ b → cond b (Some x) (first_in test xs) ≡ Some k
        → (first_in test xs ≡ Some k → test k ≡ true) → test k ≡ true
    go true h found ih = let same : x ≡ k = cc in rw (← same) h
    go false h found ih = ih found

-- no ticket, nothing held
pub hand-none : (ticket : Option Ticket) (made : Bool) (bytes : List ℕ) → is_some ticket ≡ false
    → hand_of ticket made bytes ≡ Nothing
hand-none None made bytes e = refl
hand-none (Some t) made bytes e = cc

-- what the worker holds, by the ticket in its hand
pub desk-hand : {desk : Desk} (ticket : Option Ticket) (made : Bool) (bytes : List ℕ) {t : Ticket} {room : ℕ}
    → ◌≡◌ {A = Desk} (record { hand = hand_of ticket made bytes; room = room }) desk → ticket ≡ Some t
    → desk.hand ≡ hand_of (Some t) made bytes
desk-hand ticket made bytes view is =
    ap {B = Hand} (λ (d : Desk). d.hand) (sym view) ∙ ap (λ o. hand_of o made bytes) is

-- and by whether its bytes are made
pub worker-hand : {desk : Desk} (ticket : Option Ticket) (made : Bool) (bytes : List ℕ) {t : Ticket} {known : Bool}
    {room : ℕ} → ◌≡◌ {A = Desk} (record { hand = hand_of ticket made bytes; room = room }) desk → ticket ≡ Some t
    → made ≡ known → desk.hand ≡ hand_of (Some t) known bytes
worker-hand ticket made bytes {t = t} view is f =
    desk-hand ticket made bytes view is ∙ ap (λ b. hand_of (Some t) b bytes) f

-- the bytes that were made stand in front
pub front_made : (n : ℕ) (a b made : List ℕ) → n ≡ length a → a ≡ made → take n (a ++ b) ≡ made
front_made n a b made e m = rw (e, take-append_seam) m

-- an answer that tells a failure
pub raised : {before now : ℕ} {quiet device : Type 0} → HasCause before now quiet device → device → Rises before now
raised cause d = record { later = cause.later; rose = cause.rose d }

-- and a later one
pub rises-after : (before mid now : ℕ) → before ≤ mid → Rises mid now → Rises before now
rises-after before mid now le rises = record {
  later = omega (arith, le, rises.later);
  rose = λ few. grind (arith, le, rises.later, rises.rose);
}

-- a fault of what is held, made or not
pub fault-hand : (made : Bool) (t : Ticket) (bytes : List ℕ) (old new : State) → new ≡ after_fault old t
    → FaultStep old (hand_of (Some t) made bytes) new Nothing
fault-hand true t bytes old new e = (e, refl)
fault-hand false t bytes old new e = (e, refl)

-- which answer ends a run at a mark
pub mark-is : {X : Type 0} (result : Result X JobFault) → ended_of result ≡ Some MarkFailed → IsErrOf result Mark
mark-is (Ok x) e = cc
mark-is (Err (GivenUp k)) e = cc
mark-is (Err Mark) e = refl
