-- Sequencing of steps that may fail.
use Rattle.std.specs.Prelude.{Result, Ok, Err}

-- continues with the next step if this one succeeded
infixl 10 ◌>>=◌
abbrev pub ◌>>=◌ : {A B E : Type 0} → Result A E → (A → Result B E) → Result B E
Ok x >>= next = next x
Err fault >>= next = Err fault
