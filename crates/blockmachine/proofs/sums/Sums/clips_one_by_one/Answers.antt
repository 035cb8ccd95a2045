use Rattle.std.proofs.Common.{◌≡◌, ◌<◌, ◌≤◌, List, [], ◌∷◌, ◌++◌, ◌+◌, ◌*◌, ◌/◌, ◌%◌, ◌^◌, false, length, take, arith, rules, sym, ap, ◌∙◌, subst}
use Rattle.std.specs.Prelude.{ℤ, pos}
use Rattle.std.proofs.Math.Nat.{mul-le-mul_right}
use Rattle.std.proofs.lemmas.Int.{to_z-of_z}
use Rattle.std.proofs.lemmas.List.{length-take-le, take_more}
use Rattle.std.proofs.lemmas.List.Elements.{All-nil}
use Rattle.std.proofs.lemmas.Nat.{div-add-mod', mod_below}
use mir.Syntax.{w64}
use mir.Val.{SFits}
use Rattle.sound_terms.specs.Depth.{bits_of}
use Rattle.clipping.specs.Clips.{IsClippingOf, block_sums, is_clipped}
use Rattle.blockmachine.specs.Sums.{BlockSums}
use Rattle.blockmachine.proofs.Emitted.{block_mapped, block_taken, each_kept, room}
use Rattle.blockmachine.proofs.UnclippedSums.{none_clipped}
use Rattle.blockmachine.proofs.sums.Sums.clips_one_by_one.Goals as goal

pub loop-k-init : goal.loop-k-init
loop-k-init c =
    c.none-clips.ensures (bits_of c.args.depth) c.args.self.now.extent.channels []
    (All-nil (λ sum. is_clipped (bits_of c.args.depth) sum ≡ false))

pub loop-k-preserved : goal.loop-k-preserved
loop-k-preserved c =
    let n = c.loop-k.k in
    let inside = c.self.inside in
    let values = c.args.self.now.values in
    let channels = c.args.self.now.extent.channels in
    let frames = c.args.self.now.extent.frames in
    let wide : inside.lanes.channels ≡ channels = ap (λ (s : BlockSums). s.extent.channels) c.self.view_is in
    let whole : length values ≡ frames * channels =
    each_kept inside.at_depth (bits_of inside.depth) inside.lanes.frames inside.lanes.channels inside.layers.items
    inside.values.items _ c.self.view_is c.self.invariant.1 c.self.invariant.0 in
    let most = room (length c.args.samples.now) c.requires.0 frames channels c.requires.1 c.requires.2 in
    let within : n < length values = omega (arith, whole, most, c.loop-k-test.true) in
    let row : n ≡ n / channels * channels + n % inside.lanes.channels =
    sym (div-add-mod' n channels) ∙ ap (λ m. n / channels * channels + n % m) (sym wide) in
    let near : n % inside.lanes.channels < channels =
    subst (λ m. n % inside.lanes.channels < m) wide (mod_below n inside.lanes.channels inside.lanes.some_channels) in
    let few : frames * channels ≤ 4096 * channels =
    mul-le-mul_right channels (omega (arith, inside.lanes.few_frames, ap (λ (s : BlockSums). s.extent.frames) c.self.view_is)) in
    let small : n + 1 < 2 ^ 64 = omega (arith, few, most, wide, inside.lanes.few_channels, c.loop-k-test.true) in
    let fits : SFits w64 c.sum_at.result = search rules in
    let noted =
    c.note.ensures channels (n / channels) (take n values) row near (length-take-le n values (omega (arith, within)))
    small c.loop-k.invariant in
    subst (λ (l : List ℤ). IsClippingOf (bits_of c.args.depth) channels l c.note.new.self)
    (ap (λ z. take n values ++ z ∷ []) (to_z-of_z w64 c.sum_at.result fits ∙ c.sum_at.ensures)
    ∙ sym (take_more values n (pos 0) within)) noted

pub returns : goal.returns
returns c = λ all are frames long handed.
    let kept = c.args.self.now in
    let inside = c.self.inside in
    let whole : length kept.values ≡ kept.extent.frames * kept.extent.channels =
    each_kept inside.at_depth (bits_of inside.depth) inside.lanes.frames inside.lanes.channels inside.layers.items
    inside.values.items _ c.self.view_is c.self.invariant.1 c.self.invariant.0 in
    let all_noted : c.loop-k.k ≡ length c.args.samples.now = omega (arith, c.loop-k-test.false, c.loop-k.auto.k-end) in
    let taken = block_taken kept all are whole frames c.requires.0 c.requires.1 (sym long ∙ c.requires.2) in
    subst (λ (l : List ℤ). IsClippingOf (bits_of c.args.depth) kept.extent.channels l c.loop-k.clips)
    (ap (λ n. take n kept.values) (all_noted ∙ long) ∙ taken) c.loop-k.invariant

pub returns-then-not-may_be_clipped : goal.returns-then-not-may_be_clipped
returns-then-not-may_be_clipped c = λ all are frames long handed.
    let channels = c.args.self.now.extent.channels in
    c.none-clips.ensures (bits_of c.args.depth) channels (block_sums all channels 0 frames)
    (none_clipped c.args.depth (block_sums all channels 0 frames) c.args.samples.now
    (handed ∙ block_mapped (bits_of c.args.depth) all channels 0 frames)
    (c.may_be_clipped.ensures c.if-not-may_be_clipped.true))
