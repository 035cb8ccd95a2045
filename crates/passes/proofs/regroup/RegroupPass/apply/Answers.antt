use Rattle.passes.specs.PlayedLaws.{reads_regrouped}
use Rattle.passes.proofs.Regrouped.{mix_regrouped, regrouped_are, whole_regrouped}
use Rattle.passes.proofs.regroup.RegroupPass.apply.Goals as goal

pub of-requires : goal.of-requires
of-requires c = rw c.in_ok-grouped.ensures (regrouped_are c.args.intervals c.groups.ensures.sound)

pub returns-clause-keeps_mix : goal.returns-clause-keeps_mix
returns-clause-keeps_mix c reading agrees channel time =
    rw (c.of.ensures, c.in_ok-grouped.ensures) (mix_regrouped reading channel time c.args.intervals)

pub returns-clause-keeps_whole : goal.returns-clause-keeps_whole
returns-clause-keeps_whole c whole = rw (c.of.ensures, c.in_ok-grouped.ensures, whole_regrouped c.args.intervals) whole

pub returns-clause-reads_no_more : goal.returns-clause-reads_no_more
returns-clause-reads_no_more c file channel frame read =
    rw (c.of.ensures, c.in_ok-grouped.ensures, reads_regrouped file channel frame c.args.intervals) at read
