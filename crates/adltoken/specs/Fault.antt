-- Refusal numbers and lines of token faults.
use Rattle.std.specs.Prelude.{◌≡◌, ◌⊎◌, ℕ}
use Rattle.list_terms.specs.declared.TextFault.{TextFault}
use Rattle.list_terms.specs.declared.TextFault.TheVariants as fault
use Rattle.adltoken.specs.declared.fault.TokenFault.{TokenFault}
use Rattle.adltoken.specs.declared.fault.TokenFault.TheVariants.{BadByte, BadLine}

-- The refusal number of a token fault.
abbrev pub number_of : TokenFault → ℕ
number_of (BadByte line) = 1
number_of (BadLine line) = 2

-- The line of a token fault.
abbrev pub line_of : TokenFault → ℕ
line_of (BadByte line) = line
line_of (BadLine line) = line

-- The fault of the list's text that a token fault reports.
abbrev pub text_fault : TokenFault → TextFault
text_fault (BadByte line) = fault.BadByte
text_fault (BadLine line) = fault.BadLine

-- Faults that cutting tokens can return.
abbrev pub IsTokenFault : TextFault → Type 0
IsTokenFault found = (found ≡ fault.BadByte) ⊎ (found ≡ fault.BadLine)
