use Rattle.std.proofs.Common.{◌≡◌, length}
use Rattle.list_terms.specs.Text.{rate_from, rate_of}
use Rattle.adlread.specs.Outline.{outline_of}
use Rattle.adlread.proofs.outline.rate_in_lines.Given as goal

-- The remaining lines, in the outline so far, have the rate of the whole text.
abbrev pub invariant-lines : goal.invariant-lines
invariant-lines l = rate_from (outline_of l.outline) l.lines.lines ≡ rate_of l.fn.text

abbrev pub decreases-lines : goal.decreases-lines
decreases-lines l = length l.lines.lines
