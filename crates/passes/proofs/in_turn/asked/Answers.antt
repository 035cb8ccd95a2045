use Rattle.std.proofs.lemmas.Result.{IfOk-weaker}
use Rattle.passes.specs.Laws.{agrees_none}
use Rattle.sound_terms.specs.Groups.{pieces_of}
use Rattle.passes.proofs.in_turn.asked.Goals as goal

pub returns-else-looks-clause-keeps_mix : goal.returns-else-looks-clause-keeps_mix
returns-else-looks-clause-keeps_mix g c honest channel time =
    let reading = g.P.Samples.reading c.args.samples.now in
    IfOk-weaker c.turn-else-looks.result _ _
    (λ new same. same reading (agrees_none reading (pieces_of c.args.intervals)) channel time)
    c.turn-else-looks.ensures.keeps_mix
