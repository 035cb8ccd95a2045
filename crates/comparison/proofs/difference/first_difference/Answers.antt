use Rattle.std.proofs.Common.{◌*◌, ◌<◌, get_or, arith, rules}
use Rattle.std.specs.Prelude.{pos}
use Rattle.std.proofs.lemmas.Int.{to_z-of_z}
use Rattle.std.proofs.Math.Nat.{div-lt_iff_lt-mul, mod-lt}
use mir.Syntax.{w64}
use mir.Val.{SFits}
use Rattle.comparison.proofs.Places.{all_alike, first_differs}
use Rattle.comparison.proofs.difference.first_difference.Goals as goal

pub returns-then-are_same : goal.returns-then-are_same
returns-then-are_same c = λ mix other are.
    let block = c.args.block.now in
    all_alike block.frames block.channels block.start block.sums.now block.others.now mix other are.sums are.others
    (λ k below. c.are_same.ensures c.if-are_same.true k (omega (arith, below, block.whole)))

pub returns-in_default : goal.returns-in_default
returns-in_default c = λ mix other are.
    let block = c.args.block.now in
    all_alike block.frames block.channels block.start block.sums.now block.others.now mix other are.sums are.others
    (λ k below. c.in_default.ensures k (omega (arith, below, block.whole)))

pub returns : goal.returns
returns c = λ mix other are.
    let block = c.args.block.now in
    let at = c.in-Some.position in
    let found = c.in-Some.ensures in
    let inside : at < block.frames * block.channels = omega (arith, found.0, block.whole) in
    let sum = get_or block.sums.now at (pos 0) in
    let other_sum = get_or block.others.now at (pos 0) in
    let fits : SFits w64 sum = search rules in
    let other_fits : SFits w64 other_sum = search rules in
    rw (to_z-of_z w64 sum fits, to_z-of_z w64 other_sum other_fits)
    (first_differs block.frames block.channels block.start block.sums.now block.others.now mix other are.sums are.others
    at block.some_channels inside found.1 found.2 ((div-lt_iff_lt-mul block.some_channels).1 inside)
    (mod-lt at block.some_channels))
