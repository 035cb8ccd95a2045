use Rattle.std.proofs.Common.{◌≡◌, sym}
use Rattle.adlcons.proofs.looks.show_opened.Goals as goal

pub returns-then-status-eq-MISTAKE-clause-mistake : goal.returns-then-status-eq-MISTAKE-clause-mistake
returns-then-status-eq-MISTAKE-clause-mistake g c = λ two.
    let same : c.err-1.given.0 ≡ c.answer_picture-status.new.terminal.err.now =
    c.err-1.given.1 (sym c.answer_picture-status.ensures.consoles.1) in
    rw same (c.answer_picture-status.ensures.mistake two)

pub returns-clause-mistake : goal.returns-clause-mistake
returns-clause-mistake g c = λ two. absurd (c.if-status-eq-MISTAKE.false two)
