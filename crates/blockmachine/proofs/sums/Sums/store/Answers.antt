use Rattle.std.proofs.Common.{◌≡◌, ◌≤◌, ◌/◌, ◌*◌, ℕ, List, length, map, take, arith, sym, ap, ◌∙◌, subst}
use Rattle.std.specs.Prelude.{ℤ}
use Rattle.std.specs.List.{flat_map}
use Rattle.std.proofs.Math.Nat.{mul-div_left, mul-le-mul_right}
use Rattle.std.proofs.lemmas.List.{length-take-le, take-map}
use Rattle.sound_terms.specs.Depth.{bits_of}
use Rattle.sound_terms.specs.Mix.{full_scale, quantized}
use Rattle.sound_terms.specs.Waves.{sample_bytes}
use Rattle.clipping.specs.Clips.{IsClippingOf, block_sums}
use Rattle.clipping.specs.Kept.{at_full_scale}
use Rattle.blockmachine.specs.Sums.{AreSums, BlockSums, kept_sums, widened}
use Rattle.blockmachine.proofs.Emitted.{block_mapped, block_taken, each_kept}
use Rattle.blockmachine.proofs.sums.Sums.store.Goals as goal

-- a whole number of sample frames
whole_frames : (n taken frames channels : ℕ) → taken ≡ n → n ≡ frames * channels → 1 ≤ channels
    → taken / channels * channels ≡ taken
whole_frames n taken frames channels same is some =
    ap (λ m. m / channels * channels) (same ∙ is) ∙ ap (λ m. m * channels) (mul-div_left frames some) ∙ sym (same ∙ is)

pub invariant_of-kept : goal.invariant_of-kept
invariant_of-kept c =
    let inside = c.self.inside in
    let wide = ap (λ (s : BlockSums). s.extent.channels) c.self.view_is in
    let frames = ap (λ (s : BlockSums). s.extent.frames) c.self.view_is in
    let given = c.requires.frames in
    let n = length c.args.samples.now in
    let long : n ≡ given.0 * inside.lanes.channels = given.2 ∙ ap (λ m. given.0 * m) (sym wide) in
    let layers : length c.deref.result.now ≡ inside.lanes.frames * inside.lanes.channels =
    ap length c.deref.ensures.value ∙ c.self.invariant.1 in
    let row : given.0 * inside.lanes.channels ≤ inside.lanes.frames * inside.lanes.channels =
    mul-le-mul_right inside.lanes.channels (omega (arith, given.1, frames)) in
    record {
      some_channels = inside.lanes.some_channels;
      few_channels = inside.lanes.few_channels;
      whole =
          whole_frames n (length (take n c.deref.result.now)) given.0 inside.lanes.channels
          (length-take-le n c.deref.result.now (omega (arith, long, layers, row))) long inside.lanes.some_channels;
    }

-- if the sums are kept at the requested depth, the emitted ones are the block's
kept_block : (c : goal.After-slice_known-then-bits-1) (all : ℕ → ℕ → ℤ) → AreSums c.args.self.now all → (frames : ℕ)
    → length c.args.samples.now ≡ frames * c.args.self.now.extent.channels
    → at_full_scale (bits_of c.args.depth) (take (length c.args.samples.now) c.deref.result.now)
    ≡ block_sums all c.args.self.now.extent.channels 0 frames
kept_block c all are frames long =
    let kept = c.args.self.now in
    let inside = c.self.inside in
    let bits = bits_of c.args.depth in
    let layers = c.deref.result.now in
    let given = c.requires.frames in
    let whole : length kept.values ≡ kept.extent.frames * kept.extent.channels =
    each_kept inside.at_depth (bits_of inside.depth) inside.lanes.frames inside.lanes.channels inside.layers.items
    inside.values.items _ c.self.view_is c.self.invariant.1 c.self.invariant.0 in
    let same : bits_of inside.depth ≡ bits =
    sym c.bits.ensures ∙ c.if-bits.true ∙ c.bits-then-self.ensures in
    let values : widened bits layers ≡ kept.values =
    ap (widened bits) c.deref.ensures.value
    ∙ ap (λ n. widened n inside.layers.items) (sym same)
    ∙ ap (λ b. kept_sums b (bits_of inside.depth) inside.layers.items inside.values.items) (sym c.if-self.true)
    ∙ ap (λ (s : BlockSums). s.values) c.self.view_is in
    sym (take-map (full_scale bits) (length c.args.samples.now) layers)
    ∙ ap (λ (l : List ℤ). take (length c.args.samples.now) l) values
    ∙ ap (λ n. take n kept.values) long
    ∙ block_taken kept all are whole frames given.0 given.1 (sym long ∙ given.2)

pub returns-then-bits-clause-stored : goal.returns-then-bits-clause-stored
returns-then-bits-clause-stored c = λ all are frames long.
    let bits = bits_of c.args.depth in
    c.store_kept.ensures.stored
    ∙ ap (λ (l : List ℤ). flat_map (sample_bytes bits) l)
    (ap (map (quantized bits)) (kept_block c all are frames long)
    ∙ sym (block_mapped bits all c.args.self.now.extent.channels 0 frames))

pub returns-then-bits-clause-clips : goal.returns-then-bits-clause-clips
returns-then-bits-clause-clips c = λ all are frames long.
    let bits = bits_of c.args.depth in
    let wide = ap (λ (s : BlockSums). s.extent.channels) c.self.view_is in
    subst (λ n. IsClippingOf bits n (block_sums all c.args.self.now.extent.channels 0 frames) c.store_kept.result) wide
    (subst (λ (l : List ℤ). IsClippingOf bits c.self.inside.lanes.channels l c.store_kept.result)
    (kept_block c all are frames long) c.store_kept.ensures.clips)

pub returns-clause-clips : goal.returns-clause-clips
returns-clause-clips c = λ all are frames long.
    c.clips_one_by_one.ensures all are frames (c.emit.auto.out ∙ long) (c.emit.ensures all are frames long)
