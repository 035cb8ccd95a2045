use Rattle.std.proofs.Common.{◌≡◌, ◌+◌, ◌*◌, ◌/◌, false, rules, sym, refl, get_or, length, arith}
use Rattle.std.specs.Prelude.{pos}
use Rattle.std.proofs.lemmas.Bool.{false≢true}
use Rattle.sound_terms.specs.Depth.{bits_of}
use Rattle.sound_terms.specs.Mix.{full_scale}
use Rattle.clipping.specs.Clips.{is_clipped}
use Rattle.clipping.proofs.Outsides.{found_on, none_found_on, one_further, test_of}
use Rattle.clipping.proofs.kept.Kept.is_outside_on.Goals as goal

pub loop-frame-init : goal.loop-frame-init
loop-frame-init c = λ k below. absurd (omega (arith, below))

pub returns-then-is_outside : goal.returns-then-is_outside
returns-then-is_outside c =
    let kept = c.args.self.now in
    let bits = bits_of kept.depth in
    let sum = get_or kept.sums.now (c.loop-frame.frame * kept.channels + c.args.channel) (pos 0) in (
      λ _. found_on bits kept.sums.now (length kept.sums.now / kept.channels) kept.channels c.loop-frame.frame
          c.args.channel (sym kept.whole) c.loop-frame-test.true c.requires
          (test_of bits sum _ _ (search rules) c.is_outside.ensures c.if-is_outside.true),
      λ _. refl,
    )

pub loop-frame-preserved : goal.loop-frame-preserved
loop-frame-preserved c =
    let kept = c.args.self.now in
    let bits = bits_of kept.depth in
    let sum = get_or kept.sums.now (c.loop-frame.frame * kept.channels + c.args.channel) (pos 0) in
    one_further (λ n. is_clipped bits
    (full_scale bits (get_or kept.sums.now (n * kept.channels + c.args.channel) (pos 0))) ≡ false)
    c.loop-frame.frame c.loop-frame.invariant
    (test_of bits sum _ _ (search rules) c.is_outside.ensures c.if-is_outside.false)

pub returns : goal.returns
returns c =
    let kept = c.args.self.now in (
      λ wrong. absurd (false≢true wrong),
      λ is. none_found_on (bits_of kept.depth) kept.sums.now (length kept.sums.now / kept.channels) kept.channels
          c.args.channel (sym kept.whole)
          (λ k early. c.loop-frame.invariant k (omega (arith, early, c.loop-frame-test.false))) is _,
    )
