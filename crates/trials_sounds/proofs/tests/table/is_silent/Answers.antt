use Rattle.std.proofs.Common.{◌≡◌, ◌∙◌, ◌+◌, ◌-◌, ◌&&◌, ℕ, suc, Bool, true, false, pos, int_eq, sym, ap, arith}
use Rattle.sound_terms.specs.Mix.{Reading}
use Rattle.sound_terms.specs.Passes.{is_zero_channel}
use Rattle.trials_sounds.proofs.tests.table.is_silent.Goals as goal

-- the first sample and the samples after it
one_frame : (reading : Reading) (file channel frame rest more : ℕ) (zero : Bool) → rest ≡ suc more
    → int_eq (reading file channel frame) (pos 0) ≡ zero
    → is_zero_channel reading file channel frame rest ≡ (zero && is_zero_channel reading file channel (suc frame) more)
one_frame reading file channel frame rest more zero some is =
    ap (is_zero_channel reading file channel frame) some
    ∙ ap (λ b. b && is_zero_channel reading file channel (suc frame) more) is

pub returns-then-not-is_zero : goal.returns-then-not-is_zero
returns-then-not-is_zero c = λ reading file channel row.
    let frame = c.loop-frame.frame in
    let rest = c.args.from + c.args.length - frame in
    let some : rest ≡ suc (rest - 1) = omega (arith, c.loop-frame-test.true) in
    let sounds : int_eq (reading file channel frame) (pos 0) ≡ false =
    ap (λ sample. int_eq sample (pos 0)) (row frame) ∙ sym c.is_zero.ensures ∙ c.if-not-is_zero.true in
    sym (c.loop-frame.invariant reading file channel row ∙ one_frame reading file channel frame rest (rest - 1) false some sounds)

pub loop-frame-preserved : goal.loop-frame-preserved
loop-frame-preserved c = λ reading file channel row.
    let frame = c.loop-frame.frame in
    let rest = c.args.from + c.args.length - frame in
    let more = c.args.from + c.args.length - (frame + 1) in
    let some : rest ≡ suc more = omega (arith, c.loop-frame-test.true) in
    let silent : int_eq (reading file channel frame) (pos 0) ≡ true =
    ap (λ sample. int_eq sample (pos 0)) (row frame) ∙ sym c.is_zero.ensures ∙ c.if-not-is_zero.false in
    let next : suc frame ≡ frame + 1 = omega arith in
    c.loop-frame.invariant reading file channel row ∙ one_frame reading file channel frame rest more true some silent
    ∙ ap (λ n. is_zero_channel reading file channel n more) next
