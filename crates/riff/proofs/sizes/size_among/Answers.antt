use Rattle.std.proofs.Common.{◌≡◌, ℕ, ◌+◌, ◌-◌, ◌*◌, ap, sym, ◌∙◌, arith}
use Rattle.riff.specs.Sizes.{entry_from}
use Rattle.riff.proofs.Reading.{entry_after}
use Rattle.riff.proofs.Table.{entry_met, entry_missed}
use Rattle.riff.proofs.sizes.size_among.Goals as goal

pub loop-i-init : goal.loop-i-init
loop-i-init c = λ file at rest ahead.
    let place : at ≡ at + 12 * 0 = omega arith in
    let many : c.args.entries.now.count + rest ≡ c.args.entries.now.count - 0 + rest = omega arith in
    ap (λ k. entry_from file k (c.args.entries.now.count + rest) c.args.id) place
    ∙ ap (λ n. entry_from file (at + 12 * 0) n c.args.id) many

pub returns-then-eq : goal.returns-then-eq
returns-then-eq c = λ file at rest ahead.
    let i : ℕ = c.loop-i.i in
    c.loop-i.invariant file at rest ahead
    ∙ entry_met file (at + 12 * i) (c.args.entries.now.count - i + rest) (c.args.entries.now.count - (i + 1) + rest) c.args.id
    c.of-entry.result
    (entry_after file at (12 * i) _ _ ahead (omega arith) c.of-entry.ensures.id c.of-entry.ensures.size)
    (sym c.if-eq.ensures) (omega arith)

pub loop-i-preserved : goal.loop-i-preserved
loop-i-preserved c = λ file at rest ahead.
    let i : ℕ = c.loop-i.i in
    c.loop-i.invariant file at rest ahead
    ∙ entry_missed file (at + 12 * i) (at + 12 * (i + 1)) (c.args.entries.now.count - i + rest)
    (c.args.entries.now.count - (i + 1) + rest) c.args.id c.of-entry.result
    (entry_after file at (12 * i) _ _ ahead (omega arith) c.of-entry.ensures.id c.of-entry.ensures.size)
    (sym c.if-eq.ensures) (omega arith) (omega arith)

pub returns : goal.returns
returns c = λ file at rest ahead.
    let i : ℕ = c.loop-i.i in
    let all : i ≡ c.args.entries.now.count = omega arith in
    let none : c.args.entries.now.count - i + rest ≡ rest = omega arith in
    c.loop-i.invariant file at rest ahead
    ∙ ap (λ n. entry_from file (at + 12 * i) n c.args.id) none
    ∙ ap (λ k. entry_from file (at + 12 * k) rest c.args.id) all
