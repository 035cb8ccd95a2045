use Rattle.pcm.proofs.Zeros.{all_by_rest}
use Rattle.pcm.proofs.all_zero.Goals as goal

pub returns : goal.returns
returns c =
    let rest = all_by_rest c.args.samples.now c.zero_lanes-done.result c.zero_lanes-done.ensures.zero in
    let plain = c.all_zero_plain.ensures in
    (λ t. rest.0 (plain.0 t), λ all. plain.1 (rest.1 all))
