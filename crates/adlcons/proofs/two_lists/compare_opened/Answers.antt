use Rattle.std.proofs.Common.{◌≡◌, sym}
use Rattle.adlcons.proofs.two_lists.compare_opened.Goals as goal

pub returns-clause-answered : goal.returns-clause-answered
returns-clause-answered g c = λ some.
    let same : c.out-1.given.0 ≡ c.answer_compare-status.new.terminal.out.now =
    c.out-1.given.1 (sym c.answer_compare-status.ensures.consoles.0) in
    rw same (record {
      list = c.deref.result.now;
      other = c.deref-2.result.now;
      before = c.args.first.now.shelf;
      after = c.answer_compare-status.new.first_shelf;
      other_before = c.args.second.now.shelf;
      other_after = c.answer_compare-status.new.second_shelf;
      folder = c.requires.media;
      other_folder = c.requires.other_media;
      answered = c.answer_compare-status.ensures.compared some;
    })

pub returns-then-status-eq-MISTAKE-clause-answered : goal.returns-then-status-eq-MISTAKE-clause-answered
returns-then-status-eq-MISTAKE-clause-answered g c = λ some. absurd (some c.if-status-eq-MISTAKE.true)

pub returns-then-status-eq-MISTAKE-clause-mistake : goal.returns-then-status-eq-MISTAKE-clause-mistake
returns-then-status-eq-MISTAKE-clause-mistake g c = λ two.
    let same : c.err-1.given.0 ≡ c.answer_compare-status.new.terminal.err.now =
    c.err-1.given.1 (sym c.answer_compare-status.ensures.consoles.1) in
    (c.deref.result.now, rw same (c.answer_compare-status.ensures.mistake two))

pub returns-clause-mistake : goal.returns-clause-mistake
returns-clause-mistake g c = λ two. absurd (c.if-status-eq-MISTAKE.false two)
