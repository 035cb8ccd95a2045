use Rattle.std.proofs.Common.{arith, rules}
use Rattle.digests.proofs.InTurn.{more_hashed, nothing_hashed}
use Rattle.digests.proofs.digests.hash_run.Goals as goal

pub overflow_add-run : goal.overflow_add-run
overflow_add-run g c = omega (arith, c.frame_of.ensures.bounded, c.args.kept.now.inside, c.loop-done.invariant.0)

pub loop-done-init : goal.loop-done-init
loop-done-init g c = (
  omega arith,
  search rules,
  λ honest m held. nothing_hashed _ _ _ m _ held,
)

pub loop-done-preserved : goal.loop-done-preserved
loop-done-preserved g c = (
  omega (arith, c.loop-done.invariant.0, c.min-count.ensures),
  search rules,
  λ honest m held. more_hashed _ _ _ m _ _ _ _ (c.loop-done.invariant.2 honest m held)
      (λ message now. search rules),
)
