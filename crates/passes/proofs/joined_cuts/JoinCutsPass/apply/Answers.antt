use Rattle.passes.specs.PlayedLaws.{reads_joined}
use Rattle.passes.proofs.JoinedCuts.{mix_joined, whole_joined}
use Rattle.passes.proofs.Kept.{joined_are}
use Rattle.passes.proofs.joined_cuts.JoinCutsPass.apply.Goals as goal

pub of-requires : goal.of-requires
of-requires c = rw c.in_ok-joined.ensures (joined_are c.args.intervals c.groups.ensures.sound)

pub returns-clause-keeps_mix : goal.returns-clause-keeps_mix
returns-clause-keeps_mix c reading agrees channel time = rw (c.of.ensures, c.in_ok-joined.ensures)
    (mix_joined reading channel time c.args.intervals)

pub returns-clause-keeps_whole : goal.returns-clause-keeps_whole
returns-clause-keeps_whole c whole = rw (c.of.ensures, c.in_ok-joined.ensures, whole_joined c.args.intervals) whole

pub returns-clause-reads_no_more : goal.returns-clause-reads_no_more
returns-clause-reads_no_more c file channel frame read =
    rw (c.of.ensures, c.in_ok-joined.ensures, reads_joined file channel frame c.args.intervals) at read
