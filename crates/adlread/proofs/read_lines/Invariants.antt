use Rattle.std.proofs.Common.{◌≡◌, true, [], length}
use Rattle.std.specs.List.{list_all}
use Rattle.sampletime.specs.FrameRate.{frames_per_second}
use Rattle.list_terms.specs.Lines.{lines_of}
use Rattle.list_terms.specs.Text.{nothing_read, read_from}
use Rattle.list_terms.specs.WholeProject.{is_line_byte}
use Rattle.adlread.specs.Context.{context_of}
use Rattle.adlread.specs.SoFar.{IsSoFar}
use Rattle.adlread.specs.FaultSpans.{lines_span}
use Rattle.adlread.proofs.read_lines.Given as goal

-- Reading the remaining lines from the current state gives the result of the whole text.
abbrev pub invariant-lines : goal.invariant-lines
invariant-lines l = record {
  same : read_from (frames_per_second l.rate) (context_of l.draft) l.lines.number l.lines.lines
      ≡ read_from (frames_per_second l.rate) nothing_read 0 (lines_of l.fn.text);
  span : lines_span (frames_per_second l.rate) (context_of l.draft) l.lines.number l.last l.lines.lines
      ≡ lines_span (frames_per_second l.rate) nothing_read 0 [] (lines_of l.fn.text);
  so_far : IsSoFar (frames_per_second l.rate) (context_of l.draft);
  whole : list_all (list_all is_line_byte) l.lines.lines ≡ true;
}

abbrev pub decreases-lines : goal.decreases-lines
decreases-lines l = length l.lines.lines
