use Rattle.soundlaw.proofs.Parts.{left_of_parts}
use Rattle.soundlaw.proofs.rise.Rise.gain_left.Goals as goal

pub invariant_of-result-clause-low : goal.invariant_of-result-clause-low
invariant_of-result-clause-low c =
    let rise = c.args.self.now in
    (left_of_parts rise.parts rise.fraction.den rise.fraction.num rise.rest rise.are_parts rise.rest_below c.requires).0

pub invariant_of-result-clause-high : goal.invariant_of-result-clause-high
invariant_of-result-clause-high c =
    let rise = c.args.self.now in
    (left_of_parts rise.parts rise.fraction.den rise.fraction.num rise.rest rise.are_parts rise.rest_below c.requires).1
