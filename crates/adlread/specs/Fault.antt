-- Refusals of faults, and the outcomes of reading.
use Rattle.std.specs.Prelude.{◌≡◌, ℕ, false, Option, None, Some, Result, Ok, Err, ⊤}
use Rattle.work_terms.specs.Refusals.{Refusal, Nowhere}
use Rattle.adltoken.specs.declared.tokens.Span.{Span}
use Rattle.list_terms.specs.declared.Location.{Location}
use Rattle.list_terms.specs.declared.Location.TheVariants as location
use Rattle.list_terms.specs.declared.TextFault.{TextFault}
use Rattle.list_terms.specs.Text.{LocatedFault, text_refusal}
use Rattle.adlread.specs.declared.fault.AdlFault.{AdlFault}
use Rattle.adlread.specs.declared.fault.AdlFault.TheVariants.{Text, Memory}
use Rattle.adlread.specs.declared.fault.LineFault.{LineFault}
use Rattle.adlread.specs.declared.fault.LineFault.TheVariants as line

-- The refusal of a fault.
abbrev pub refusal : AdlFault → Refusal
refusal (Text fault location stood) = text_refusal (record { fault = fault; location = location })
refusal Memory = record { number = 18; location = Nowhere; late = false }

-- The line of a location.
abbrev pub line_of_location : Location → ℕ
line_of_location (location.Line line) = line
line_of_location (location.Entry line entry) = line
line_of_location (location.Index line index) = line

-- The entry number of a location, if any.
abbrev pub entry_of_location : Location → Option ℕ
entry_of_location (location.Line line) = None
entry_of_location (location.Entry line entry) = Some entry
entry_of_location (location.Index line index) = None

-- The index number of a location, if any.
abbrev pub index_of_location : Location → Option ℕ
index_of_location (location.Line line) = None
index_of_location (location.Entry line entry) = None
index_of_location (location.Index line index) = Some index

-- The faulty line, or 0 if out of memory.
abbrev pub line_of : AdlFault → ℕ
line_of (Text fault location stood) = line_of_location location
line_of Memory = 0

-- The entry number of a fault, if any.
abbrev pub entry_of : AdlFault → Option ℕ
entry_of (Text fault location stood) = entry_of_location location
entry_of Memory = None

-- The index number of a fault, if any.
abbrev pub index_of : AdlFault → Option ℕ
index_of (Text fault location stood) = index_of_location location
index_of Memory = None

-- The outcome of reading so far, or a located fault; running out of memory is always possible.
abbrev pub Reads : {X V : Type 0} → (X → V) → Result X AdlFault → Result V LocatedFault → Type 0
Reads view (Ok x) reading = reading ≡ Ok (view x)
Reads view (Err (Text fault location stood)) reading = reading ≡ Err (record { fault = fault; location = location })
Reads view (Err Memory) reading = ⊤

-- The outcome of reading a line, or its fault; running out of memory is always possible.
abbrev pub Says : {X V : Type 0} → (X → V) → Result X LineFault → Result V TextFault → Type 0
Says view (Ok x) reading = reading ≡ Ok (view x)
Says view (Err (line.Text fault)) reading = reading ≡ Err fault
Says view (Err line.Memory) reading = ⊤

-- The fault of a line, with its location and byte range.
abbrev pub located : Location → Span → LineFault → AdlFault
located location stood (line.Text fault) = Text fault location stood
located location stood line.Memory = Memory

-- The refusal of a list, or `None` if it was read.
abbrev pub refused : {V : Type 0} → Result V LocatedFault → Option Refusal
refused (Ok value) = None
refused (Err fault) = Some (text_refusal fault)
