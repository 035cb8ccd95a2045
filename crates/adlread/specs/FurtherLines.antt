-- Properties of an entry that its further lines don't change.
use Rattle.std.specs.Prelude.{◌≡◌, Result, IsTrue, IfOk}
use Rattle.list_terms.specs.WholeProject.{is_event}
use Rattle.list_terms.specs.declared.OpenEntry.{OpenEntry}

-- The entry keeps its number.
abbrev pub HasNumberOf : OpenEntry → OpenEntry → Type 0
HasNumberOf entry new = new.event.number ≡ entry.event.number

-- A valid entry stays valid.
abbrev pub StaysWhole : {E : Type 0} → OpenEntry → Result OpenEntry E → Type 0
StaysWhole entry result = IsTrue (is_event entry.event) → IfOk result (λ new. IsTrue (is_event new.event))
