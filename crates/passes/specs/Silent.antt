-- Silent pieces, as a function of the source samples, and effects of the calls that detect them.
use Rattle.std.specs.Prelude.{ℕ, Bool, List, map, Result}
use Rattle.sound_terms.specs.declared.piece.Piece.{Piece}
use Rattle.sound_terms.specs.Mix.{Reading}
use Rattle.sound_terms.specs.Passes.{are_zero}
use Rattle.passes.specs.Looks.{IsLookedAt, LooksTo}
use Rattle.passes.specs.declared.samples.Samples as samples
use Rattle.passes.specs.declared.fault.PassFault.{PassFault}
use Rattle.passes.specs.declared.fault.PassFault.TheVariants.{Memory, Device}

-- all samples that the piece reads are zero
abbrev pub is_silent_in : Reading → Piece → Bool
is_silent_in reading p = are_zero reading p.file p.first p.width p.frame p.length

-- the silence flags of the pieces, in order
abbrev pub silences_of : Reading → List Piece → List Bool
silences_of reading pieces = map (is_silent_in reading) pieces

-- the samples of a file can't be read (refusal 52)
abbrev pub IsDevice : PassFault → Type 0
IsDevice Memory = ⊥
IsDevice (Device file) = Unit {0}

-- a property holds for the file that a device error names
abbrev pub HoldsOfNamed : PassFault → (ℕ → Type 0) → Type 0
HoldsOfNamed Memory failed = ⊥
HoldsOfNamed (Device file) failed = failed file

-- the call only queries for silence; a device error implies a failure on the file that it names
abbrev pub AsksFor : {P X : Type 0} → samples.Ghosts P → P → P → Result X PassFault → Type 0
AsksFor looked old new result =
    LooksTo looked.reading looked.honest looked.failures looked.failed_at old new result IsDevice HoldsOfNamed

-- nothing has changed and nothing has failed so far
abbrev pub IsStill : {P : Type 0} → samples.Ghosts P → P → P → Type 0
IsStill looked = IsLookedAt looked.reading looked.honest looked.failures looked.failed_at
