use Rattle.std.proofs.Common.{◌≡◌, ◌++◌, drop}
use Rattle.mediaset.specs.Spans.{IsOpen, merged}
use Rattle.mediaset.proofs.merged_spans.merge_behind.Given as goal

-- The runs so far, with those of the held span and the remaining spans, are the runs of all spans.
abbrev pub invariant-loop-span : goal.invariant-loop-span
invariant-loop-span l =
    IsOpen l.held × (l.runs.items ++ merged l.held (drop l.span-index l.later) ≡ merged l.fn.first l.later)
