use Rattle.std.proofs.Common.{◌≡◌, ℕ, ◌+◌, ◌*◌, subst, arith}
use Rattle.riff.specs.Sizes.{HasEntry, IsIndexed}
use Rattle.riff.proofs.Reading.{entry_after}
use Rattle.riff.proofs.index.add_entries.Goals as goal

pub loop-i-preserved : goal.loop-i-preserved
loop-i-preserved c = λ file n ahead before.
    let i : ℕ = c.loop-i.i in
    let place : 48 + 12 * n + 12 * i ≡ 48 + 12 * (n + i) = omega arith in
    let next : n + i + 1 ≡ n + (i + 1) = omega arith in
    let has =
    entry_after file (48 + 12 * n) (12 * i) c.args.entries.now.bytes.now c.of-entry.result ahead (omega arith)
    c.of-entry.ensures.id c.of-entry.ensures.size in
    subst (λ k. IsIndexed file k c.add_entry.new.index) next
    (c.in_ok-add_entry.ensures file (n + i) (subst (λ at. HasEntry file at c.of-entry.result) place has)
    (c.loop-i.invariant file n ahead before))

pub returns : goal.returns
returns c = λ file n ahead before.
    let all : c.loop-i.i ≡ c.args.entries.now.count = omega arith in
    subst (λ k. IsIndexed file (n + k) c.loop-i.index) all (c.loop-i.invariant file n ahead before)
