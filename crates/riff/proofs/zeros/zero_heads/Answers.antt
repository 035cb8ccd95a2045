use Rattle.std.proofs.Common.{◌≡◌, ◌+◌, ◌*◌, ◌-◌, All, take, drop, replicate, subst, arith, rules}
use Rattle.riff.proofs.ZeroHeads.{more_zeros}
use Rattle.riff.proofs.zeros.zero_heads.Goals as goal

pub loop-groups-preserved : goal.loop-groups-preserved
loop-groups-preserved c =
    let bytes = c.args.bytes.now in
    let groups = c.loop-groups.groups in
    let next : groups * 512 + 512 ≡ (groups + 1) * 512 = omega arith in
    let width : (groups + 1) * 512 - groups * 512 ≡ 512 = omega arith in
    let all = subst (λ n. All (λ byte. byte ≡ 0) (take n (drop (groups * 512) bytes))) width
    (c.are_zeros.ensures.0 (search rules)) in
    record {
      within = omega arith;
      zeros = subst (λ n. take n bytes ≡ replicate n 0) next
          (more_zeros bytes (groups * 512) 512 c.loop-groups.invariant.zeros (omega arith) all);
    }
