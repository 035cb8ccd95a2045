use Rattle.groups.proofs.CutPieces.{cut_are_groups, cut_hold_pieces}
use Rattle.groups.proofs.OneSide.{cut_is_apart}
use Rattle.groups.proofs.SameReads.{reads_cut}
use Rattle.groups.proofs.SameMix.{mix_cut}
use Rattle.groups.proofs.intervals.Intervals.cut_at.Goals as goal

pub ordered-requires-clause-groups : goal.ordered-requires-clause-groups
ordered-requires-clause-groups c =
    rw c.in_ok-sides.ensures (cut_are_groups c.get.result c.args.self c.groups.ensures.sound.groups_ok)

pub ordered-requires-clause-pieces : goal.ordered-requires-clause-pieces
ordered-requires-clause-pieces c =
    rw c.in_ok-sides.ensures (cut_hold_pieces c.get.result c.args.self c.groups.ensures.sound.pieces_ok)

pub returns-clause-same_mix : goal.returns-clause-same_mix
returns-clause-same_mix c reading channel time =
    rw (c.in_ok-ordered.ensures.order, c.in_ok-sides.ensures) (mix_cut reading c.get.result c.args.self channel time)

pub returns-clause-apart : goal.returns-clause-apart
returns-clause-apart c =
    rw (c.in_ok-ordered.ensures.order, c.in_ok-sides.ensures, ← c.get.ensures.samples)
    (cut_is_apart c.get.result c.args.self)

pub returns-clause-same_reads : goal.returns-clause-same_reads
returns-clause-same_reads c file channel frame =
    rw (c.in_ok-ordered.ensures.order, c.in_ok-sides.ensures) (reads_cut c.get.result c.args.self file channel frame)
