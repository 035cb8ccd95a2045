use Rattle.std.proofs.Common.{◌≡◌, ◌-◌, ◌+◌, ◌*◌, None, Some, arith, rules, sym, ◌∙◌, refl}
use Rattle.riff.proofs.Reading.{still_holds}
use Rattle.riff.proofs.Table.{block_passed}
use Rattle.riff.proofs.sizes.entry_of.Goals as goal

pub returns-in-Some-clause-found : goal.returns-in-Some-clause-found
returns-in-Some-clause-found g c = λ honest file there.
    let kept = c.loop-done.invariant.sources in
    let ahead = still_holds kept.same kept.honest_same c.in_ok-read.ensures.ahead honest file there in
    sym (block_passed file c.args.entries c.loop-done.done c.in_ok-read.read.count c.args.id (Some c.in-Some.size) (omega (arith, c.in_ok-read.ensures.within))
    (c.loop-done.invariant.passed honest file there) (λ rest. c.in-Some.ensures file (48 + 12 * c.loop-done.done) rest ahead))

pub loop-done-preserved : goal.loop-done-preserved
loop-done-preserved g c = record {
  sources = search rules;
  within = omega (arith, c.in_ok-read.ensures.within);
  passed = λ honest file there.
      let kept = c.loop-done.invariant.sources in
      let ahead = still_holds kept.same kept.honest_same c.in_ok-read.ensures.ahead honest file there in
      block_passed file c.args.entries c.loop-done.done c.in_ok-read.read.count c.args.id None (omega (arith, c.in_ok-read.ensures.within))
      (c.loop-done.invariant.passed honest file there)
      (λ rest. rw c.in_default.is at (c.size_among.ensures file (48 + 12 * c.loop-done.done) rest ahead));
}

pub returns-clause-found : goal.returns-clause-found
returns-clause-found g c = λ honest file there.
    let within = c.loop-done.invariant.within in
    let none : c.args.entries - c.loop-done.done ≡ 0 = omega (arith, within) in
    sym (c.loop-done.invariant.passed honest file there ∙ rw none refl)
