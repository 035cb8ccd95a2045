use Rattle.std.proofs.Common.{◌≡◌, ◌+◌, ◌-◌, ◌*◌, ◌/◌, ◌++◌, ◌≤◌, List, ◌∙◌, ap, arith, length, rules, sym, take}
use Rattle.std.specs.Prelude.{ℤ}
use Rattle.std.proofs.lemmas.Slice.{take-put_mid}
use Rattle.facts.specs.Parts.{length-put_mid}
use Rattle.sound_terms.specs.Depth.{bits_of}
use Rattle.pcm.proofs.Steps.{FitWords, next_inside, next_read, words}
use Rattle.pcm.proofs.lanes.unpack_lanes.Goals as goal

pub loop-done-preserved : goal.loop-done-preserved
loop-done-preserved c =
    let depth = c.args.depth in
    let done = c.loop-done.done in
    let bytes = c.args.bytes.now in
    let samples = c.loop-done.samples in
    let four = c.put_four.new.samples in
    let all = c.four_samples-four.result in
    let width : c.from-width.result ≡ bits_of depth / 8 = search rules in
    let fit : FitWords all = (search rules, search rules, search rules, search rules) in
    let read = c.four_samples-four.ensures in
    let long : length four ≡ 4 = search rules in
    let inside : done + 4 ≤ length samples =
    next_inside depth done c.from-width.result bytes all width read fit (length samples)
    (c.requires ∙ ap (λ n. n * (bits_of depth / 8)) (sym c.loop-done.auto.samples)) c.loop-done-test.true in
    record {
      within = rw (length-put_mid done (done + 4 - done) samples four (omega arith) (omega arith)) inside;
      read =
          take-put_mid done (done + 4 - done) samples four (done + 4) (omega arith) c.loop-done.invariant.within
          ∙ ap (λ (l : List ℤ). take done samples ++ l) c.put_four.ensures
          ∙ ap (λ (l : List ℤ). l ++ words all) c.loop-done.invariant.read
          ∙ next_read depth done c.from-width.result bytes all width read fit;
    }
