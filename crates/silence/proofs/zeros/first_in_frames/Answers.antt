use Rattle.std.proofs.Common.{◌≡◌, true, false, arith, sym, ◌∙◌, below_more}
use Rattle.silence.specs.Zero.{IsFrameZero}
use Rattle.silence.proofs.Frames.{frame_zero}
use Rattle.silence.proofs.zeros.first_in_frames.Goals as goal

pub returns-then-not-all_zero : goal.returns-then-not-all_zero
returns-then-not-all_zero c =
    let need = c.requires in
    let frame =
    frame_zero c.args.frames.now c.args.channels c.args.first c.args.width c.loop-i.i need.last need.first
    c.loop-i-test.true in
    let sounds : IsFrameZero c.args.frames.now c.args.channels c.args.first c.args.width c.loop-i.i → ⊥ =
    λ silent. let no : false ≡ true = sym c.if-not-all_zero.true ∙ c.all_zero.ensures.1 (frame.1 silent) in cc in
    (omega arith, c.loop-i-test.true, λ k low below. c.loop-i.invariant k below, sounds)

pub loop-i-preserved : goal.loop-i-preserved
loop-i-preserved c =
    let need = c.requires in
    let frame =
    frame_zero c.args.frames.now c.args.channels c.args.first c.args.width c.loop-i.i need.last need.first
    c.loop-i-test.true in
    below_more _ _ c.loop-i.invariant (frame.0 (c.all_zero.ensures.0 c.if-not-all_zero.false))
