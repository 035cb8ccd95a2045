use Rattle.std.proofs.Common.{◌≡◌, List, get_or, length, arith, sym, ap, ◌∙◌}
use Rattle.std.specs.Prelude.{ℤ, pos}
use Rattle.sound_terms.specs.Depth.{bits_of}
use Rattle.sound_terms.specs.Mix.{quantized}
use Rattle.blockmachine.specs.Sums.{BlockSums, kept_sums, widened}
use Rattle.blockmachine.proofs.AtDepth.{get_or-widened}
use Rattle.blockmachine.proofs.Emitted.{each_kept, enough, handed_out}
use Rattle.blockmachine.proofs.sums.Sums.emit.Goals as goal

pub emit_layers-requires : goal.emit_layers-requires
emit_layers-requires c =
    enough _ _ _ _ c.args.out.now c.args.self.now c.self.view_is c.requires
    (ap (λ (l : List ℤ). length l) c.as_slice-layers.ensures.value ∙ c.self.invariant.1)

pub emit-requires : goal.emit-requires
emit-requires c =
    enough _ _ _ _ c.args.out.now c.args.self.now c.self.view_is c.requires
    (ap (λ (l : List ℤ). length l) c.as_slice-values.ensures.value ∙ c.self.invariant.0)

pub returns-then-self : goal.returns-then-self
returns-then-self c = λ all are frames long.
    let inside = c.self.inside in
    let kept = bits_of inside.depth in
    let bits = bits_of c.args.depth in
    let layers = c.as_slice-layers.result.now in
    let room =
    enough _ _ _ _ c.args.out.now c.args.self.now c.self.view_is c.requires
    (ap (λ (l : List ℤ). length l) c.as_slice-layers.ensures.value ∙ c.self.invariant.1) in
    let view : widened kept layers ≡ c.args.self.now.values =
    ap (widened kept) c.as_slice-layers.ensures.value
    ∙ ap (λ deep. kept_sums deep kept inside.layers.items inside.values.items) (sym c.if-self.true)
    ∙ ap (λ (s : BlockSums). s.values) c.self.view_is in
    handed_out bits all c.args.self.now frames c.emit_layers.new.out are
    (each_kept inside.at_depth _ _ _ inside.layers.items _ _ c.self.view_is c.self.invariant.1 c.self.invariant.0)
    (c.requires.0, c.requires.1, c.emit_layers.auto.out ∙ c.requires.2) (c.emit_layers.auto.out ∙ long) (λ k below.
    c.emit_layers.ensures k below
    ∙ ap (quantized bits) (sym (get_or-widened kept layers k (omega (arith, below, room, c.emit_layers.auto.out)))
    ∙ ap (λ (l : List ℤ). get_or l k (pos 0)) view))

pub returns-else-self : goal.returns-else-self
returns-else-self c = λ all are frames long.
    let inside = c.self.inside in
    let bits = bits_of c.args.depth in
    let view : c.as_slice-values.result.now ≡ c.args.self.now.values =
    c.as_slice-values.ensures.value
    ∙ ap (λ deep. kept_sums deep (bits_of inside.depth) inside.layers.items inside.values.items) (sym c.if-self.false)
    ∙ ap (λ (s : BlockSums). s.values) c.self.view_is in
    handed_out bits all c.args.self.now frames c.emit.new.out are
    (each_kept inside.at_depth _ _ _ inside.layers.items _ _ c.self.view_is c.self.invariant.1 c.self.invariant.0)
    (c.requires.0, c.requires.1, c.emit.auto.out ∙ c.requires.2) (c.emit.auto.out ∙ long) (λ k below.
    c.emit.ensures k below ∙ ap (λ (l : List ℤ). quantized bits (get_or l k (pos 0))) view)
