use Rattle.std.proofs.Common.{arith, rules, sym}
use Rattle.pcm.proofs.Adding.{four_added, four_fit, four_inside, summed_none}
use Rattle.pcm.proofs.lanes.add_lanes.Goals as goal

pub loop-done-init : goal.loop-done-init
loop-done-init c = record {
  within = omega arith;
  added = sym (summed_none c.args.sums.now);
}

pub add_four-requires-clause-room : goal.add_four-requires-clause-room
add_four-requires-clause-room c =
    four_fit c.args.depth c.loop-done.done c.from-width.result c.args.bytes.now c.four_samples-four.result (search rules)
    c.four_samples-four.ensures (search rules, search rules, search rules, search rules) c.args.sums.now c.loop-done.sums
    c.requires.each c.loop-done-test.true c.loop-done.invariant.added c.requires.room

pub loop-done-preserved : goal.loop-done-preserved
loop-done-preserved c = record {
  within =
      four_inside c.args.depth c.loop-done.done c.from-width.result c.args.bytes.now c.four_samples-four.result
      (search rules) c.four_samples-four.ensures (search rules, search rules, search rules, search rules) c.args.sums.now
      c.loop-done.sums c.requires.each c.loop-done-test.true c.loop-done.invariant.added;
  added =
      four_added c.args.depth c.loop-done.done c.from-width.result c.args.bytes.now c.four_samples-four.result
      (search rules) c.four_samples-four.ensures (search rules, search rules, search rules, search rules) c.args.sums.now
      c.loop-done.sums c.requires.each c.loop-done-test.true c.loop-done.invariant.added c.add_four.new.sums
      c.add_four.ensures;
}
