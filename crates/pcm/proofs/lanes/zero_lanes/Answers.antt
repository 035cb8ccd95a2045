use Rattle.std.proofs.Common.{◌+◌, ◌∙◌, arith, get_or, refl, rules, sym}
use Rattle.std.specs.Prelude.{pos}
use Rattle.std.proofs.lemmas.Int.{to_z-of_z}
use mir.Syntax.{w32}
use mir.Val.{SFits}
use Rattle.pcm.proofs.Zeros.{four_more}
use Rattle.pcm.proofs.lanes.zero_lanes.Goals as goal

pub loop-done-preserved : goal.loop-done-preserved
loop-done-preserved c =
    let samples = c.args.samples.now in
    let n = c.loop-done.done in
    let zero = c.if-not-are_zero.ensures.0 refl in
    let a : SFits w32 (get_or samples n (pos 0)) = search rules in
    let b : SFits w32 (get_or samples (n + 1) (pos 0)) = search rules in
    let d : SFits w32 (get_or samples (n + 2) (pos 0)) = search rules in
    let e : SFits w32 (get_or samples (n + 3) (pos 0)) = search rules in
    record {
      within = omega arith;
      zero =
          four_more samples n (omega arith) c.loop-done.invariant.zero
          (sym (to_z-of_z w32 _ a) ∙ zero 0 (pos 0) (omega arith)) (sym (to_z-of_z w32 _ b) ∙ zero 1 (pos 0) (omega arith))
          (sym (to_z-of_z w32 _ d) ∙ zero 2 (pos 0) (omega arith)) (sym (to_z-of_z w32 _ e) ∙ zero 3 (pos 0) (omega arith));
    }
