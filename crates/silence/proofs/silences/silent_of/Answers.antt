use Rattle.std.proofs.Common.{◌∙◌, ap}
use Rattle.std.specs.Prelude.{map}
use Rattle.passes.specs.Laws.{agrees}
use Rattle.passes.specs.Silent.{is_silent_in}
use Rattle.sound_terms.specs.Sounds.{reading_by}
use Rattle.silence.proofs.silences.silent_of.Goals as goal

pub asked_in_order-requires-clause-pieces : goal.asked_in_order-requires-clause-pieces
asked_in_order-requires-clause-pieces g c =
    rw c.as_slice-2.ensures.value c.in_ok-pieces.ensures.sound

pub asked_in_order-requires-clause-each : goal.asked_in_order-requires-clause-each
asked_in_order-requires-clause-each g c =
    let each = rw c.as_slice.ensures.value at c.in_ok-order.ensures.each in
    rw (c.as_slice-2.ensures.value, c.as_slice-3.ensures.value) each

pub returns-clause-answers : goal.returns-clause-answers
returns-clause-answers g c honest =
    let reading = reading_by (g.S.Shelf.stored c.args.shelf.now) c.args.sounds.now in
    c.in_ok-silent.ensures.answers honest
    ∙ ap (map (is_silent_in reading)) (c.as_slice-2.ensures.value ∙ c.in_ok-pieces.ensures.all)

pub returns-clause-agrees : goal.returns-clause-agrees
returns-clause-agrees g c honest =
    let reading = reading_by (g.S.Shelf.stored c.args.shelf.now) c.args.sounds.now in
    rw (returns-clause-answers g c honest) (agrees reading c.args.intervals.now)
