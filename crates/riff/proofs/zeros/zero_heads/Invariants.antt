use Rattle.std.proofs.Common.{◌≡◌, ◌≤◌, ◌*◌, ◌-◌, take, replicate, length}
use Rattle.riff.proofs.zeros.zero_heads.Given as goal

abbrev pub invariant-loop-groups : goal.invariant-loop-groups
invariant-loop-groups l = record {
  within : l.groups * 512 ≤ length l.bytes;
  zeros : take (l.groups * 512) l.bytes ≡ replicate (l.groups * 512) 0;
}

abbrev pub decreases-loop-groups : goal.decreases-loop-groups
decreases-loop-groups l = length l.bytes - l.groups * 512
