use Rattle.std.proofs.Common.{◌≡◌, take}
use Rattle.std.specs.List.{flat_map}
use Rattle.sound_terms.specs.Passes.{piece_before, piece_behind}
use Rattle.groups.proofs.cuts.cut_pieces.Given as goal

abbrev pub invariant-loop-piece : goal.invariant-loop-piece
invariant-loop-piece l =
    let done = take l.piece-index l.piece-items in
    (l.cut.before.items ≡ flat_map (piece_before l.time) done) × (l.cut.after.items ≡ flat_map (piece_behind l.time) done)
