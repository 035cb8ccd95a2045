-- Which faults come at each step of a plan.
use Rattle.std.specs.Prelude.{ℕ, ◌<◌, ⊤}
use Rattle.passes.specs.declared.fault.PassFault.TheVariants as pass
use Rattle.relink.specs.declared.fault.RelinkFault.TheVariants as relink
use Rattle.consolidation.specs.declared.fault.ConsolidationFault.{ConsolidationFault}
use Rattle.consolidation.specs.declared.fault.ConsolidationFault.TheVariants.{Pass, Relink}

-- a fault of the list over the media, for so many groups
abbrev pub IsOfLinking : ℕ → ConsolidationFault → Type 0
IsOfLinking count (Relink relink.TooManyEntries) = 32767 < count
IsOfLinking count (Relink relink.Memory) = ⊤
IsOfLinking count _ = ⊥

-- a fault of a report: a source failed, or no memory was left
abbrev pub IsOfReport : ConsolidationFault → Type 0
IsOfReport (Pass (pass.Device file)) = ⊤
IsOfReport (Relink relink.Memory) = ⊤
IsOfReport _ = ⊥
