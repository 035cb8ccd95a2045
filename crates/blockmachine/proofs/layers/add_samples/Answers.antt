use Rattle.std.proofs.Common.{◌≡◌, ◌<◌, ◌+◌, List, length, get_or, arith, rules, refl, sym, ap, ◌∙◌, subst}
use Rattle.std.specs.Prelude.{ℤ, pos, ◌+ℤ◌}
use Rattle.std.proofs.lemmas.Int.{to_z-of_z}
use Rattle.std.proofs.lemmas.List.{length-map, map-set}
use mir.Syntax.{w32}
use mir.Val.{SFits, of_z, to_z}
use Rattle.sound_terms.specs.Depth.{bits_of}
use Rattle.sound_terms.specs.Mix.{full_scale, share_of}
use Rattle.sound_terms.specs.Blocks.{held}
use Rattle.soundlaw.specs.Sums.{IsWithin}
use Rattle.blockmachine.specs.Sums.{HasAddedTo, widened}
use Rattle.blockmachine.proofs.Added.{added_more, flat_share}
use Rattle.blockmachine.proofs.AtDepth.{get_or-widened}
use Rattle.blockmachine.proofs.layers.add_samples.Goals as goal

pub loop-i-preserved : goal.loop-i-preserved
loop-i-preserved c =
    let n = c.loop-i.i in
    let sums = c.loop-i.sums in
    let samples = c.args.layer.now.frames.samples.now in
    let depth = bits_of c.args.layer.now.depth in
    let source = bits_of c.args.layer.now.frames.depth in
    let inside : n < length sums = omega arith in
    let sum_fits : SFits w32 (get_or sums n (pos 0)) = search rules in
    let sample_fits : SFits w32 (get_or samples n (pos 0)) = search rules in
    let fits : SFits w32 c.layered.result = search rules in
    let new = to_z w32 (of_z w32 c.layered.result) in
    let told =
    rw (to_z-of_z w32 (get_or sums n (pos 0)) sum_fits, to_z-of_z w32 (get_or samples n (pos 0)) sample_fits)
    at c.layered.ensures in
    let alike : held (get_or (widened depth sums) n (pos 0)
    +ℤ share_of (full_scale source (get_or samples n (pos 0))) (1, 1))
    ≡ held (full_scale depth (get_or sums n (pos 0)) +ℤ full_scale source (get_or samples n (pos 0))) =
    rw (get_or-widened depth sums n inside, flat_share (full_scale source (get_or samples n (pos 0)))) refl in
    let value = ap (full_scale depth) (to_z-of_z w32 c.layered.result fits) ∙ told ∙ sym alike in
    subst (λ (l : List ℤ). HasAddedTo (n + 1) (1, 1) source samples (widened depth c.args.sums.now) l)
    (sym (map-set (full_scale depth) sums n new))
    (added_more n (1, 1) source samples (widened depth c.args.sums.now) (widened depth sums) (full_scale depth new)
    (rw (length-map sums (full_scale depth)) inside) c.loop-i.invariant value)

pub layered-requires : goal.layered-requires
layered-requires c =
    let n = c.loop-i.i in
    let sums = c.loop-i.sums in
    let old = c.args.sums.now in
    let depth = bits_of c.args.layer.now.depth in
    let samples = c.args.layer.now.frames.samples.now in
    let inside : n < length sums = omega arith in
    let within : n < length old = omega arith in
    let sum_fits : SFits w32 (get_or sums n (pos 0)) = search rules in
    let sample_fits : SFits w32 (get_or samples n (pos 0)) = search rules in
    let same = sym (c.loop-i.invariant.1 n (omega arith)) ∙ get_or-widened depth sums n inside in
    record {
      small = rw (to_z-of_z w32 (get_or sums n (pos 0)) sum_fits)
          (subst (IsWithin 254) same (c.requires.small refl n (pos 0) (rw (length-map old (full_scale depth)) within)));
      fit = rw (to_z-of_z w32 (get_or samples n (pos 0)) sample_fits)
          (c.args.layer.now.frames.fit n (pos 0) (omega (arith, c.requires.each, inside)));
    }
