use Rattle.std.proofs.Common.{◌∙◌}
use Rattle.trials_lists.proofs.FlatCut.{groups_cut, mix_cut, pieces_cut, reads_cut, whole_cut}
use Rattle.trials_lists.proofs.tests.flat_cut.FlatCutPass.apply.Goals as goal

pub ordered-requires-clause-groups : goal.ordered-requires-clause-groups
ordered-requires-clause-groups c =
    rw c.in_ok-cut.ensures (groups_cut c.args.self.now.time c.args.intervals c.groups.ensures.sound.groups_ok)

pub ordered-requires-clause-pieces : goal.ordered-requires-clause-pieces
ordered-requires-clause-pieces c =
    rw c.in_ok-cut.ensures (pieces_cut c.args.self.now.time c.args.intervals c.groups.ensures.sound.pieces_ok)

pub returns-clause-keeps_mix : goal.returns-clause-keeps_mix
returns-clause-keeps_mix c reading agrees channel time =
    c.in_ok-ordered.ensures.same_mix reading channel time
    ∙ rw c.in_ok-cut.ensures (mix_cut c.args.self.now.time reading c.args.intervals channel time)

pub returns-clause-keeps_whole : goal.returns-clause-keeps_whole
returns-clause-keeps_whole c whole =
    c.in_ok-ordered.ensures.same_whole
    ∙ rw c.in_ok-cut.ensures (whole_cut c.args.self.now.time c.args.intervals) ∙ whole

pub returns-clause-reads_no_more : goal.returns-clause-reads_no_more
returns-clause-reads_no_more c file channel frame read =
    let same = rw c.in_ok-cut.ensures at (c.in_ok-ordered.ensures.same_reads file channel frame) in
    rw (same, reads_cut c.args.self.now.time c.args.intervals file channel frame) at read
