use Rattle.passes.proofs.LeftOut.{are_groups, keeps_whole, reads_no_more, same_mix}
use Rattle.passes.proofs.silence.DropSilentPass.apply.Goals as goal

pub of-requires : goal.of-requires
of-requires c = rw c.in_ok-sounding.ensures (are_groups c.args.intervals c.args.silent.now c.groups.ensures.sound)

pub returns-clause-keeps_mix : goal.returns-clause-keeps_mix
returns-clause-keeps_mix c = rw (c.of.ensures, c.in_ok-sounding.ensures) (same_mix c.args.intervals c.args.silent.now)

pub returns-clause-keeps_whole : goal.returns-clause-keeps_whole
returns-clause-keeps_whole c =
    rw (c.of.ensures, c.in_ok-sounding.ensures) (keeps_whole c.args.intervals c.args.silent.now)

pub returns-clause-reads_no_more : goal.returns-clause-reads_no_more
returns-clause-reads_no_more c file channel frame =
    rw (c.of.ensures, c.in_ok-sounding.ensures) (reads_no_more c.args.intervals c.args.silent.now file channel frame)
