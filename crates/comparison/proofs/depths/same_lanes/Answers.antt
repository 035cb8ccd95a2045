use Rattle.std.proofs.Common.{◌≡◌, ◌*◌, ◌/◌, ◌≤◌, ◌∙◌, ap, arith, drop, refl, rules, sym, take}
use Rattle.sound_terms.specs.Depth.{bits_of}
use Rattle.sound_terms.specs.Laws.{bits_bounded}
use Rattle.comparison.specs.Stored.{full_samples}
use Rattle.comparison.proofs.Lanes.{four_more}
use Rattle.comparison.proofs.depths.same_lanes.Goals as goal

pub loop-done-preserved : goal.loop-done-preserved
loop-done-preserved c =
    let bits = bits_of c.args.pair.now.depth in
    let other = bits_of c.args.pair.now.other in
    let done = c.loop-done.done in
    let bytes = c.args.pair.now.bytes.now in
    let others = c.args.pair.now.others.now in
    let width : c.from-width.result ≡ bits / 8 = search rules in
    let other_width : c.from-other_width.result ≡ other / 8 = search rules in
    let narrow : bits / 8 ≤ 4 = omega (arith, bits_bounded c.args.pair.now.depth) in
    let other_narrow : other / 8 ≤ 4 = omega (arith, bits_bounded c.args.pair.now.other) in
    let four : full_samples 32 4 c.four_samples-four.result ≡ full_samples bits 4 (take 16 (drop (done * (bits / 8)) bytes)) =
    c.four_samples-four.ensures ∙ ap (λ n. full_samples bits 4 (take 16 (drop (done * n) bytes))) width in
    let counterpart : full_samples 32 4 c.four_samples-counterpart.result
    ≡ full_samples other 4 (take 16 (drop (done * (other / 8)) others)) =
    c.four_samples-counterpart.ensures ∙ ap (λ n. full_samples other 4 (take 16 (drop (done * n) others))) other_width in
    let equal : c.four_samples-four.result ≡ c.four_samples-counterpart.result = c.if-not-are_equal.ensures refl in
    let more : full_samples bits 4 (take 16 (drop (done * (bits / 8)) bytes))
    ≡ full_samples other 4 (take 16 (drop (done * (other / 8)) others)) =
    sym four ∙ ap (full_samples 32 4) equal ∙ counterpart in
    record {
      within = omega arith;
      same =
          four_more bits done bytes narrow
          ∙ rw (c.loop-done.invariant.same, more) (sym (four_more other done others other_narrow));
    }
