use Rattle.std.proofs.Common.{◌≡◌, ◌∙◌, Bool, All, ap, subst, sym}
use Rattle.sound_terms.specs.Depth.{bits_of}
use Rattle.soundlaw.specs.Sums.{IsWithin}
use Rattle.blockmachine.specs.Sums.{kept_sums, widened}
use Rattle.blockmachine.proofs.AtDepth.{zeros_widened}
use Rattle.blockmachine.proofs.layers.widen_layers.Goals as goal

pub returns-then-is_clear : goal.returns-then-is_clear
returns-then-is_clear c =
    let bits = bits_of c.args.depth in
    let layers = c.args.layers.now in
    let told : kept_sums c.args.at_depth bits layers c.args.values.now ≡ widened bits layers =
    ap (λ (kept : Bool). kept_sums kept bits layers c.args.values.now) c.if-at_depth.true in
    let clear : All (IsWithin 0) (widened bits layers) =
    subst (All (IsWithin 0)) told (c.requires.clear c.if-is_clear.true) in
    zeros_widened bits layers c.set_wide_to_zero.new.sums (c.requires.each ∙ sym c.set_wide_to_zero.auto.sums)
    c.set_wide_to_zero.ensures clear ∙ sym told
