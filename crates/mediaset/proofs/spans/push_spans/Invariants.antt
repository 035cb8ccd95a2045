use Rattle.std.proofs.Common.{◌≡◌, take}
use Rattle.std.specs.List.{flat_map, fold}
use Rattle.mediaset.specs.Spans.{put_span, span_of}
use Rattle.mediaset.proofs.spans.push_spans.Given as goal

abbrev pub invariant-loop-piece : goal.invariant-loop-piece
invariant-loop-piece l =
    l.spans.items
    ≡ fold put_span l.initial.spans.items (flat_map (span_of l.homes l.handle) (take l.piece-index l.pieces))
