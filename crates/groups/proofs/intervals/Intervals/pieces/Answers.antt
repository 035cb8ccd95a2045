use Rattle.std.proofs.Common.{take}
use Rattle.std.specs.List.{All}
use Rattle.std.proofs.lemmas.List.Elements.{All-take}
use Rattle.sound_terms.specs.Groups.{IsPiece}
use Rattle.sound_terms.specs.GroupLaws.{all_pieces}
use Rattle.groups.proofs.intervals.Intervals.pieces.Goals as goal

pub returns-clause-sound : goal.returns-clause-sound
returns-clause-sound c =
    let groups = c.groups-group-items.result.now in
    let all = rw (← c.groups-group-items.ensures.lent) at c.groups-group-items.ensures.sound.pieces_ok in
    rw c.loop-group.invariant (all_pieces IsPiece (take c.loop-group.group-index groups)
    (All-take (All IsPiece) c.loop-group.group-index groups all))
