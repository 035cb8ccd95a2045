use Rattle.std.proofs.Common.{◌≡◌, refl, sym}
use Rattle.adlcons.proofs.folders.try_check.Goals as goal

pub returns-clause-answered : goal.returns-clause-answered
returns-clause-answered g c =
    let same : c.out-1.given.0 ≡ c.answer_request-status.new.terminal.out.now =
    c.out-1.given.1 (sym c.answer_request-status.ensures.consoles.0) in
    let checked = c.answer_request-status.ensures.checked _ _ refl in
    record {
      before = c.in_ok-shelf.shelf;
      after = c.answer_request-status.new.shelf;
      folder = c.in_ok-shelf.ensures.folder;
      answered = record {
        outcome = checked.outcome;
        called = checked.called;
        status_is = checked.status_is;
        printed = rw same checked.printed;
      };
    }
