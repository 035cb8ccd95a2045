use Rattle.std.proofs.Common.{rules}
use Rattle.renderreport.specs.Report.{facts_of}
use Rattle.renderreport.proofs.Whole.{whole}
use Rattle.renderreport.proofs.written.write_report.Goals as goal

pub returns-in-Ok-write-clause-written : goal.returns-in-Ok-write-clause-written
returns-in-Ok-write-clause-written g c = search (rules, whole (facts_of c.args.facts.now))
