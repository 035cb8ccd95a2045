use Rattle.std.proofs.Common.{◌≡◌, ◌+◌, ◌*◌, ◌-◌, arith, length-take, length-drop, ℕ, sym, subst, take, ap, ◌∙◌}
use Rattle.std.proofs.lemmas.List.{take_rest}
use Rattle.std.proofs.lemmas.Result.{err_from_is_err_and}
use Rattle.riff.specs.Found.{HasZeroHeads}
use Rattle.riff.proofs.Reading.{head_after}
use Rattle.riff.proofs.ZeroHeads.{zeros_ahead}
use Rattle.riff.proofs.wave.walk_ahead.Goals as goal

pub returns-in_err-left-clause-walked : goal.returns-in_err-left-clause-walked
returns-in_err-left-clause-walked c = λ file indexed ahead before.
    let head =
    head_after file c.args.end c.args.first c.loop-left.left _ _ ahead (omega arith) (omega arith)
    c.of-head.ensures.id c.of-head.ensures.size in
    let cut = c.in_err-left.ensures.walked file c.args.sizes.now (c.loop-left.invariant.walked file indexed ahead before)
    head (c.in-Told.ensures file indexed) in
    let p = err_from_is_err_and c.from_residual.result c.from_residual.ensures.1 in rw (p.1, p.2) cut

pub loop-left-preserved-then-zeros-gt0 : goal.loop-left-preserved-then-zeros-gt0
loop-left-preserved-then-zeros-gt0 c = record {
  within = let less = c.take_in_zeros-left.ensures.less in omega (arith, less);
  inside = c.take_in_zeros-left.ensures.inside;
  walked = λ file indexed ahead before.
      let bytes = c.args.bytes.now in
      let offset = c.args.first - c.loop-left.left in
      let count = c.zero_heads-zeros.result in
      let here = c.loop-left.invariant.walked file indexed ahead before in
      let rest = take_rest bytes offset in
      let zeros = zeros_ahead file (c.args.end - c.args.first) offset count bytes ahead
      (omega (arith, c.zero_heads-zeros.ensures.within, length-take {A = ℕ}, length-drop {A = ℕ}))
      (ap (take (8 * count)) (sym rest) ∙ c.zero_heads-zeros.ensures.zeros) in
      let place : c.args.end - c.args.first + offset ≡ c.args.end - c.loop-left.left = omega arith in
      c.take_in_zeros-left.ensures.walked file c.args.sizes.now here (subst (λ n. HasZeroHeads file n count) place zeros);
}

pub loop-left-preserved : goal.loop-left-preserved
loop-left-preserved c = record {
  within = let less = c.in_ok-left.ensures.less in omega (arith, less);
  inside = c.in_ok-left.ensures.inside;
  walked = λ file indexed ahead before.
      let head =
      head_after file c.args.end c.args.first c.loop-left.left _ _ ahead (omega arith) (omega arith)
      c.of-head.ensures.id c.of-head.ensures.size in
      c.in_ok-left.ensures.walked file c.args.sizes.now (c.loop-left.invariant.walked file indexed ahead before)
      head (c.in-Told.ensures file indexed);
}
