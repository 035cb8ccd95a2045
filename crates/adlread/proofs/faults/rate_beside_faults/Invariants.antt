use Rattle.std.proofs.Common.{◌≡◌, length}
use Rattle.list_terms.specs.Lines.{lines_of}
use Rattle.list_terms.specs.Text.{nothing_passed}
use Rattle.adlread.specs.Further.{rate_beside}
use Rattle.adlread.specs.Outline.{outline_of}
use Rattle.adlread.proofs.faults.rate_beside_faults.Given as goal

-- The remaining lines, in the outline so far, have the rate of the whole text.
abbrev pub invariant-lines : goal.invariant-lines
invariant-lines l = rate_beside (outline_of l.outline) l.lines.lines ≡ rate_beside nothing_passed (lines_of l.fn.text)

abbrev pub decreases-lines : goal.decreases-lines
decreases-lines l = length l.lines.lines
