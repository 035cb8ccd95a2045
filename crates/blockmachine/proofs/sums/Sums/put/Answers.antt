use Rattle.std.proofs.Common.{◌≡◌, ◌≤◌, ◌<◌, ℕ, List, suc, ◌+◌, ◌-◌, ◌*◌, get_or, length, take, arith, rules, sym, ap, ◌∙◌}
use Rattle.std.specs.Prelude.{ℤ, pos}
use Rattle.std.proofs.Math.Nat.{mul-le-mul_right}
use Rattle.std.proofs.lemmas.List.{get_or-take, take-map}
use Rattle.sound_terms.specs.Depth.{bits_of}
use Rattle.sound_terms.specs.Mix.{full_scale}
use Rattle.blockmachine.specs.Exact.{AreSumsOf}
use Rattle.blockmachine.specs.Sums.{AreSums, BlockSums, kept_sums, widened}
use Rattle.blockmachine.proofs.Emitted.{enough, near}
use Rattle.blockmachine.proofs.sums.Sums.put.Goals as goal

-- the first sums are the sums of the first sample frames
first_sums : (all : ℕ → ℕ → ℤ) (kept : BlockSums) (few frames : ℕ) (out : List ℤ) → few ≤ kept.extent.frames
    → few * kept.extent.channels ≡ frames * kept.extent.channels → AreSums kept all
    → length out ≡ frames * kept.extent.channels → out ≡ take (length out) kept.values
    → AreSumsOf frames kept.extent.channels out all
first_sums all kept few frames out small count are long taken = λ i channel below first last.
    let channels = kept.extent.channels in
    let k = i * channels + (channel - 1) in
    let row : suc i * channels ≤ frames * channels = mul-le-mul_right channels below in
    let position : k < length out = omega (arith, row, long, first, last) in
    ap (λ (l : List ℤ). get_or l k (pos 0)) taken ∙ get_or-take (length out) kept.values k (pos 0) position
    ∙ are i channel (near i frames few kept.extent.frames channels (channel - 1) (omega (arith, first, last)) small below count)
    first last

pub slice_bounds-widen_all-end : goal.slice_bounds-widen_all-end
slice_bounds-widen_all-end c =
    let long = ap (λ (l : List ℤ). length l) c.as_slice-layers.ensures.value ∙ c.self.invariant.1 in
    let room = enough _ _ _ _ c.args.out.now c.args.self.now c.self.view_is c.requires long in
    search (rules, room)

pub slice_bounds-copy_from_slice-end : goal.slice_bounds-copy_from_slice-end
slice_bounds-copy_from_slice-end c =
    let long = ap (λ (l : List ℤ). length l) c.as_slice-values.ensures.value ∙ c.self.invariant.0 in
    let room = enough _ _ _ _ c.args.out.now c.args.self.now c.self.view_is c.requires long in
    search (rules, room)

pub returns-then-self : goal.returns-then-self
returns-then-self c = λ all are frames long.
    let inside = c.self.inside in
    let bits = bits_of inside.depth in
    let layers = c.as_slice-layers.result.now in
    let out = c.widen_all.new.values in
    let view : widened bits layers ≡ c.args.self.now.values =
    ap (widened bits) c.as_slice-layers.ensures.value
    ∙ ap (λ deep. kept_sums deep bits inside.layers.items inside.values.items) (sym c.if-self.true)
    ∙ ap (λ (s : BlockSums). s.values) c.self.view_is in
    first_sums all c.args.self.now c.requires.0 frames out c.requires.1 (sym c.requires.2 ∙ long) are
    (c.widen_all.auto.values ∙ long)
    (c.widen_all.ensures ∙ sym (take-map (full_scale bits) (length c.args.out.now) layers)
    ∙ ap (λ (n : ℕ). take n (widened bits layers)) (sym c.widen_all.auto.values) ∙ ap (take (length out)) view)

pub returns-else-self : goal.returns-else-self
returns-else-self c = λ all are frames long.
    let inside = c.self.inside in
    let values = c.as_slice-values.result.now in
    let out = c.copy_from_slice.new.self in
    let view : values ≡ c.args.self.now.values =
    c.as_slice-values.ensures.value
    ∙ ap (λ deep. kept_sums deep (bits_of inside.depth) inside.layers.items inside.values.items) (sym c.if-self.false)
    ∙ ap (λ (s : BlockSums). s.values) c.self.view_is in
    first_sums all c.args.self.now c.requires.0 frames out c.requires.1 (sym c.requires.2 ∙ long) are
    (c.copy_from_slice.ensures.len ∙ long)
    (c.copy_from_slice.ensures.after ∙ ap (λ (n : ℕ). take n values) (sym c.copy_from_slice.ensures.len)
    ∙ ap (take (length out)) view)
