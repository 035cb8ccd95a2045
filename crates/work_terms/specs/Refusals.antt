-- Refusals by number: their location, their order of precedence, and the refusals that a call may return.
use Rattle.std.specs.Prelude.{◌≡◌, ℕ, ◌≤◌, Bool, ◌&&◌, ◌||◌, ◌==◌, nat_le, if◌then◌else◌, MatchBool, Option, Some, None, Result, Ok, Err, List}

-- location that a refusal reports
pub data Where : Type 0 where
  Nowhere : Where
  Line : (line : ℕ) → Where
  LineEntry : (line entry : ℕ) → Where
  LineIndex : (line index : ℕ) → Where
  IndexFile : (index : ℕ) (name : List ℕ) → Where
  Index : (index : ℕ) → Where
  Entry : (entry : ℕ) → Where
  File : (name : List ℕ) → Where
  Job : (job : ℕ) → Where

-- a refusal; `late` if it was returned after the first write
pub record Refusal : Type 0 where
  pub number : ℕ
  pub location : Where
  pub late : Bool

-- the number is in the inclusive range
abbrev is_from_to : ℕ → ℕ → ℕ → Bool
is_from_to first last n = nat_le first n && nat_le n last

-- The stage of a call that returns the refusal. In order: list text, binding, entries, intervals, passes or an empty
-- range, runs or a block, the new list, the file size, the board, and opening marks.
abbrev pub stage_of : ℕ → ℕ
stage_of n =
    if nat_le n 18 then 1
    else if is_from_to 21 31 n then 2
    else if is_from_to 41 46 n then 3
    else if n == 47 then 4
    else if is_from_to 51 52 n || n == 58 then 5
    else if is_from_to 53 54 n || n == 57 then 6
    else if is_from_to 55 56 n then 7
    else if n == 61 then 8
    else if n == 60 then 9
    else 10

-- order of precedence: late refusals come after all stages
abbrev pub turn_of : Refusal → ℕ
turn_of refusal = if refusal.late then 11 else stage_of refusal.number

-- the refusal is out of memory
abbrev pub is_memory : ℕ → Bool
is_memory n =
    n == 18 || n == 31 || n == 45 || n == 47 || n == 51 || n == 54 || n == 56 || n == 57 || n == 60 || n == 63
    || n == 69

-- the refusal is a device failure
abbrev pub is_device : ℕ → Bool
is_device n = n == 19 || n == 22 || n == 52 || n == 62 || n == 66

-- out of memory or a device failure, which may be returned even if nothing is wrong with the input
abbrev pub is_excused : ℕ → Bool
is_excused n = is_memory n || is_device n

-- the refusal comes no later than the expected refusal, if there is one
abbrev pub ComesInTurn : Refusal → Option Refusal → Type 0
ComesInTurn refusal None = Unit {0}
ComesInTurn refusal (Some due) = turn_of refusal ≤ turn_of due

-- the refusal is the expected one, or out of memory or a device failure that comes no later
abbrev pub IsDue : Refusal → Option Refusal → Type 0
IsDue refusal due = MatchBool (is_excused refusal.number) (ComesInTurn refusal due) (due ≡ Some refusal)

-- Ok if no refusal is expected, otherwise a refusal that may be returned
abbrev pub Answers : {X E : Type 0} → (E → Refusal) → Result X E → Option Refusal → Type 0
Answers refusal_of (Ok x) due = due ≡ None
Answers refusal_of (Err fault) due = IsDue (refusal_of fault) due

-- the expected value or the expected fault; out of memory or a device failure may replace either
abbrev pub Gives : {X V E R : Type 0} → (X → V) → (E → R) → (R → ℕ) → Result X E → Result V R → Type 0
Gives view refusal_of number_of (Ok x) reading = reading ≡ Ok (view x)
Gives view refusal_of number_of (Err fault) reading =
    MatchBool (is_excused (number_of (refusal_of fault))) (Unit {0}) (reading ≡ Err (refusal_of fault))
