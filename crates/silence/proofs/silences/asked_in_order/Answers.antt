use Rattle.std.proofs.Common.{◌≡◌, length, rules, arith}
use Rattle.std.proofs.lemmas.Grind.{common_steps}
use Rattle.sound_terms.specs.Sounds.{reading_by}
use Rattle.passes.specs.Silent.{is_silent_in}
use Rattle.silence.proofs.Answered.{all_right}
use Rattle.silence.proofs.silences.asked_in_order.Goals as goal

pub loop-position-init : goal.loop-position-init
loop-position-init g c = record {
  quiet = search rules;
  whole = grind (arith, common_steps);
  known = λ honest. c.in_ok-search.ensures (reading_by (g.S.Shelf.stored c.args.shelf.now) c.args.sounds.now);
  right = λ honest k n below. absurd (omega arith);
}

pub returns-clause-answers : goal.returns-clause-answers
returns-clause-answers g c honest =
    let reading = reading_by (g.S.Shelf.stored c.args.shelf.now) c.args.sounds.now in
    let done : c.loop-position.position-index ≡ length c.args.order.now = omega arith in
    all_right (is_silent_in reading) c.args.pieces.now c.loop-position.silent.items c.args.order.now
    c.loop-position.invariant.whole c.requires.each (rw done at (c.loop-position.invariant.right honest))
