-- Refusals of entries.
use Rattle.std.specs.Prelude.{ℕ, false}
use Rattle.work_terms.specs.Refusals.{Refusal, Entry}
use Rattle.projectcheck.specs.declared.fault.EntryFault.{EntryFault}
use Rattle.projectcheck.specs.declared.fault.EntryFault.TheVariants.{UnknownIndex, EndBeforeStart, FadesTooLong, SourceChannel, SpanOutside}
use Rattle.projectcheck.specs.declared.fault.EventFault.{EventFault}

-- The refusal number of an entry fault.
abbrev pub number_of : EntryFault → ℕ
number_of UnknownIndex = 41
number_of EndBeforeStart = 42
number_of FadesTooLong = 43
number_of SourceChannel = 44
number_of SpanOutside = 46

-- The refusal of an entry with this fault.
abbrev pub refusal_of : EventFault → Refusal
refusal_of fault = record { number = number_of fault.fault; location = Entry fault.entry; late = false }
