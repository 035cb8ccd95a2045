use Rattle.std.proofs.Common.{◌≡◌, sym}
use Rattle.adlcons.proofs.looks.try_report.Goals as goal

pub returns-clause-reported : goal.returns-clause-reported
returns-clause-reported g c =
    let same : c.out-1.given.0 ≡ c.answer_report-status.new.terminal.out.now =
    c.out-1.given.1 (sym c.answer_report-status.ensures.consoles.0) in
    let told = c.answer_report-status.ensures.printed in
    record {
      before = c.in_ok-shelf.shelf;
      folder = c.in_ok-shelf.ensures.folder;
      reported = record {
        report = told.report;
        holds = told.holds;
        status_is = told.status_is;
        printed = rw same told.printed;
      };
    }
