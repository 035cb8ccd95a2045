use Rattle.std.proofs.lemmas.Result.{IfOk-weaker}
use Rattle.passes.specs.Laws.{agrees_none}
use Rattle.sound_terms.specs.Groups.{pieces_of}
use Rattle.sound_terms.specs.Sounds.{reading_by}
use Rattle.silence.proofs.turns.asked.Goals as goal

pub returns-else-looks-clause-keeps_mix : goal.returns-else-looks-clause-keeps_mix
returns-else-looks-clause-keeps_mix g c honest channel time =
    let reading = reading_by (g.S.Shelf.stored c.args.shelf.now) c.args.sounds.now in
    IfOk-weaker c.turn-else-looks.result _ _
    (λ new same. same reading (agrees_none reading (pieces_of c.args.intervals)) channel time)
    c.turn-else-looks.ensures.keeps_mix
