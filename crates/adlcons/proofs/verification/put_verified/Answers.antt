use Rattle.std.proofs.Common.{◌≡◌, sym}
use Rattle.adlcons.proofs.verification.put_verified.Goals as goal

pub returns-clause-compared : goal.returns-clause-compared
returns-clause-compared g c =
    let same : c.out-1.given.0 ≡ c.answer_verified.new.terminal.out.now =
    c.out-1.given.1 (sym c.answer_verified.ensures.consoles.0) in
    let verified = c.answer_verified.ensures.verified in
    record {
      written = c.deref.result.now;
      after = c.answer_verified.new.shelf;
      written_before = c.args.written.shelf;
      written_after = c.answer_verified.new.written_shelf;
      folder = c.requires;
      compared = record {
        outcome = verified.outcome;
        called = verified.called;
        status_is = verified.status_is;
        printed = rw same verified.printed;
      };
    }
