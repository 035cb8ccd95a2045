use Rattle.std.proofs.Common.{arith, rules, sym}
use Rattle.std.specs.Prelude.{◌+ℤ◌}
use Rattle.std.proofs.lemmas.Int.{to_z-of_z}
use mir.Syntax.{w64}
use mir.Val.{SFits}
use Rattle.soundlaw.specs.SumLaws.{held_few, within_add}
use Rattle.soundlaw.proofs.addition.added.Goals as goal

pub returns-then-is_small : goal.returns-then-is_small
returns-then-is_small c =
    let fits : SFits w64 (c.args.sum +ℤ c.args.share) = search rules in
    let small = c.requires.small (search rules) in
    rw (
      to_z-of_z w64 c.args.sum c.ranges.sum,
      to_z-of_z w64 c.args.share c.ranges.share,
      to_z-of_z w64 (c.args.sum +ℤ c.args.share) fits,
    )
    (sym (held_few 32767 (c.args.sum +ℤ c.args.share) (omega arith)
    (within_add 32766 1 c.args.sum c.args.share small c.requires.share)))
