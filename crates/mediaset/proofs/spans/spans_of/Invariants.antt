use Rattle.std.proofs.Common.{◌≡◌, take}
use Rattle.std.specs.List.{flat_map}
use Rattle.sound_terms.specs.Groups.{pieces_of}
use Rattle.mediaset.specs.Spans.{gathered, span_of}
use Rattle.mediaset.proofs.spans.spans_of.Given as goal

abbrev pub invariant-loop-group : goal.invariant-loop-group
invariant-loop-group l =
    l.spans.items ≡ gathered (flat_map (span_of l.homes l.handle) (pieces_of (take l.group-index l.group-items)))
