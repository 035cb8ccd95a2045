-- Refusal numbers.
use Rattle.std.specs.Prelude.{◌≡◌, ℕ}
use Rattle.mediacopy.specs.declared.fault.CopyFault.{CopyFault}
use Rattle.mediacopy.specs.declared.fault.CopyFault.TheVariants.{Source, Output}
use Rattle.mediacopy.specs.declared.fault.LayoutFault.{LayoutFault}
use Rattle.mediacopy.specs.declared.fault.LayoutFault.TheVariants as layout

-- The refusal number of a fault.
abbrev pub number_of : CopyFault → ℕ
number_of Source = 22
number_of Output = 62

-- The medium can't be written.
abbrev pub IsOutput : CopyFault → Type 0
IsOutput fault = fault ≡ Output

abbrev pub layout_number : LayoutFault → ℕ
layout_number layout.Output = 62
layout_number layout.Memory = 63
