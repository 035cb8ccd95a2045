use Rattle.std.proofs.Common.{◌≡◌, ◌<◌, ◌+◌, ℕ, List, length, get_or, set, arith, rules, sym, ap, ◌∙◌, subst}
use Rattle.std.specs.Prelude.{ℤ, pos, ◌+ℤ◌}
use Rattle.std.proofs.lemmas.Int.{to_z-of_z}
use Rattle.std.proofs.lemmas.List.{get_or-set_other}
use mir.Syntax.{w64}
use mir.Val.{SFits, of_z, to_z}
use Rattle.sound_terms.specs.Depth.{bits_of}
use Rattle.sound_terms.specs.Mix.{full_scale, share_of}
use Rattle.sound_terms.specs.Blocks.{held}
use Rattle.blockmachine.specs.Sums.{HasAddedTo}
use Rattle.blockmachine.proofs.Added.{added_more, flat_share}
use Rattle.blockmachine.proofs.addition.add_lanes.Goals as goal

pub loop-sums-preserved : goal.loop-sums-preserved
loop-sums-preserved c =
    let n = c.loop-sums.done in
    let sums = c.loop-sums.sums in
    let bits = bits_of c.args.row.now.scale.depth in
    let samples = c.args.row.now.samples.now in
    let all = c.two_added.result in
    let near : n + 1 < length sums = omega arith in
    let low_fits : SFits w64 c.full_sample-low.result = search rules in
    let high_fits : SFits w64 c.full_sample-high.result = search rules in
    let first_fits : SFits w64 (get_or sums n (pos 0)) = search rules in
    let second_fits : SFits w64 (get_or sums (n + 1) (pos 0)) = search rules in
    let told =
    rw (
      to_z-of_z w64 (get_or sums n (pos 0)) first_fits,
      to_z-of_z w64 (get_or sums (n + 1) (pos 0)) second_fits,
      to_z-of_z w64 c.full_sample-low.result low_fits,
      to_z-of_z w64 c.full_sample-high.result high_fits,
    )
    at c.two_added.ensures in
    let fits : SFits w64 (get_or all 0 (pos 0)) = search rules in
    let other_fits : SFits w64 (get_or all 1 (pos 0)) = search rules in
    let first = to_z w64 (of_z w64 (get_or all 0 (pos 0))) in
    let second = to_z w64 (of_z w64 (get_or all 1 (pos 0))) in
    let value = to_z-of_z w64 (get_or all 0 (pos 0)) fits ∙ ap (λ (l : List ℤ). get_or l 0 (pos 0)) told
    ∙ ap (λ z. held (get_or sums n (pos 0) +ℤ z)) (c.full_sample-low.ensures.value ∙ sym (flat_share _)) in
    let later = to_z-of_z w64 (get_or all 1 (pos 0)) other_fits ∙ ap (λ (l : List ℤ). get_or l 1 (pos 0)) told
    ∙ ap (λ z. held (get_or sums (n + 1) (pos 0) +ℤ z)) (c.full_sample-high.ensures.value ∙ sym (flat_share _))
    ∙ ap (λ z. held (z +ℤ share_of (full_scale bits (get_or samples (n + 1) (pos 0))) (1, 1)))
    (sym (get_or-set_other sums n (n + 1) first (pos 0) (λ same. absurd (omega arith)))) in
    let one : HasAddedTo (n + 1) (1, 1) bits samples c.args.sums.now (set sums n first) =
    added_more n (1, 1) bits samples c.args.sums.now sums first (omega arith) c.loop-sums.invariant.added value in
    let two : HasAddedTo (n + 1 + 1) (1, 1) bits samples c.args.sums.now (set (set sums n first) (n + 1) second) =
    added_more (n + 1) (1, 1) bits samples c.args.sums.now (set sums n first) second (search rules) one later in
    record {
      within = search rules;
      added = subst (λ (m : ℕ). HasAddedTo m (1, 1) bits samples c.args.sums.now (set (set sums n first) (n + 1) second))
          (omega arith) two;
    }

pub two_added-requires-clause-first : goal.two_added-requires-clause-first
two_added-requires-clause-first c =
    let n = c.loop-sums.done in
    let sums = c.loop-sums.sums in
    let fits : SFits w64 (get_or sums n (pos 0)) = search rules in
    let low_fits : SFits w64 c.full_sample-low.result = search rules in
    let same : get_or sums n (pos 0) ≡ get_or c.args.sums.now n (pos 0) =
    c.loop-sums.invariant.added.1 n (omega arith) in
    record {
      small = λ yes. rw (to_z-of_z w64 (get_or sums n (pos 0)) fits, same) (c.requires.small yes n (pos 0) (omega arith));
      share = rw (to_z-of_z w64 c.full_sample-low.result low_fits) c.full_sample-low.ensures.within;
    }

pub two_added-requires-clause-second : goal.two_added-requires-clause-second
two_added-requires-clause-second c =
    let n = c.loop-sums.done in
    let sums = c.loop-sums.sums in
    let fits : SFits w64 (get_or sums (n + 1) (pos 0)) = search rules in
    let high_fits : SFits w64 c.full_sample-high.result = search rules in
    let same : get_or sums (n + 1) (pos 0) ≡ get_or c.args.sums.now (n + 1) (pos 0) =
    c.loop-sums.invariant.added.1 (n + 1) (omega arith) in
    record {
      small = λ yes. rw (to_z-of_z w64 (get_or sums (n + 1) (pos 0)) fits, same)
          (c.requires.small yes (n + 1) (pos 0) (omega arith));
      share = rw (to_z-of_z w64 c.full_sample-high.result high_fits) c.full_sample-high.ensures.within;
    }
