use Rattle.std.proofs.Common.{◌≡◌, rules, arith, subst}
use Rattle.riff.specs.Sizes.{IsIndexed, entries_of}
use Rattle.riff.proofs.Reading.{still_holds}
use Rattle.riff.proofs.index.index_of.Goals as goal

pub loop-done-preserved : goal.loop-done-preserved
loop-done-preserved g c = record {
  sources = search rules;
  within = omega (arith, c.in_ok-read.ensures.within);
  indexed = λ honest file there.
      c.in_ok-add_block.ensures.added file c.loop-done.done
      (still_holds c.loop-done.invariant.sources.same c.loop-done.invariant.sources.honest_same c.in_ok-read.ensures.ahead
      honest file there)
      (c.loop-done.invariant.indexed honest file there);
}

pub returns-clause-indexed : goal.returns-clause-indexed
returns-clause-indexed g c = λ honest file there.
    let within = c.loop-done.invariant.within in
    let all : c.loop-done.done ≡ entries_of c.args.sizes.now = omega (arith, within, c.entries_of-entries.ensures) in
    subst (λ n. IsIndexed file n c.loop-done.index) all (c.loop-done.invariant.indexed honest file there)
