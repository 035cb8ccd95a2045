use Rattle.std.proofs.Common.{◌∙◌, ap}
use Rattle.sound_terms.specs.Groups.{in_start_order}
use Rattle.passes.proofs.Splitting.{all_alone, mix_split, reads_split, split_are, split_hold, whole_split}
use Rattle.passes.proofs.fades.SplitFadesPass.apply.Goals as goal

pub ordered-requires-clause-groups : goal.ordered-requires-clause-groups
ordered-requires-clause-groups c = rw c.in_ok-pieces_alone.ensures (split_are c.args.intervals)

pub ordered-requires-clause-pieces : goal.ordered-requires-clause-pieces
ordered-requires-clause-pieces c =
    rw c.in_ok-pieces_alone.ensures (split_hold c.args.intervals c.groups.ensures.sound.pieces_ok)

pub returns-clause-given : goal.returns-clause-given
returns-clause-given c =
    c.in_ok-ordered.ensures.order ∙ ap in_start_order (c.in_ok-pieces_alone.ensures ∙ all_alone c.args.intervals)

pub returns-clause-keeps_mix : goal.returns-clause-keeps_mix
returns-clause-keeps_mix c reading agrees channel time =
    c.in_ok-ordered.ensures.same_mix reading channel time
    ∙ rw c.in_ok-pieces_alone.ensures (mix_split reading c.args.intervals channel time)

pub returns-clause-keeps_whole : goal.returns-clause-keeps_whole
returns-clause-keeps_whole c whole =
    c.in_ok-ordered.ensures.same_whole
    ∙ rw c.in_ok-pieces_alone.ensures (whole_split c.args.intervals) ∙ whole

pub returns-clause-reads_no_more : goal.returns-clause-reads_no_more
returns-clause-reads_no_more c file channel frame read =
    let same = rw c.in_ok-pieces_alone.ensures at (c.in_ok-ordered.ensures.same_reads file channel frame) in
    rw (same, reads_split c.args.intervals file channel frame) at read
