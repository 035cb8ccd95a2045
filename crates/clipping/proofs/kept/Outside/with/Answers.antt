use Rattle.std.proofs.Common.{◌≡◌, ◌+◌, ◌%◌, ◌^◌, ◌≤◌, arith, ap, ◌∙◌}
use Rattle.std.specs.Prelude.{unsigned_abs, if◌then◌else◌}
use Rattle.std.specs.Int.{w32}
use Rattle.std.proofs.lemmas.Int.{to_z-of_z}
use mir.Val.{bool_byte}
use Rattle.sound_terms.specs.Depth.{bits_of}
use Rattle.sound_terms.specs.Mix.{full_scale}
use Rattle.clipping.specs.Clips.{is_clipped}
use Rattle.clipping.proofs.Outsides.{few_outside, outside_last, small_byte}
use Rattle.clipping.proofs.kept.Outside.with.Goals as goal
use Rattle.clipping.proofs.kept.Outside.with.Goals.{then-is_outside, else-is_outside}

pub returns : goal.returns
returns c = λ sums short before.
    let bits = bits_of c.args.depth in
    let same = to_z-of_z w32 c.args.sum c.ranges.sum in
    let is : c.is_outside-is_outside.result ≡ is_clipped bits (full_scale bits c.args.sum) =
    c.is_outside-is_outside.ensures ∙ ap (λ z. is_clipped bits (full_scale bits z)) same in
    let size : c.if-is_outside.distance ≡ (if c.is_outside-is_outside.result then unsigned_abs c.args.sum else 0) =
    elim c.if-is_outside.branch [
      | then-is_outside w ↦ rw w.if-is_outside.true
          (w.distance-is ∙ w.unsigned_abs-distance.ensures.value ∙ ap unsigned_abs same)
      | else-is_outside w ↦ rw w.if-is_outside.false w.distance-is
    ] in
    let few = few_outside bits sums c.args.self.count c.args.self.farthest before in
    let byte : bool_byte c.is_outside-is_outside.result ≤ 1 = small_byte c.is_outside-is_outside.result in
    let counted : (c.args.self.count + c.from.result) % 2 ^ 64
    ≡ c.args.self.count + bool_byte c.is_outside-is_outside.result =
    omega (arith, c.from.ensures, few, short, byte) in
    rw (counted, c.max.ensures)
    (outside_last bits sums c.args.sum c.args.self.count c.args.self.farthest c.if-is_outside.distance
    c.is_outside-is_outside.result is size before)
