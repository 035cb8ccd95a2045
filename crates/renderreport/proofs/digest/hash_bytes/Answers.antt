use Rattle.std.proofs.Common.{rules}
use Rattle.renderreport.specs.Report.{sound_name}
use Rattle.renderreport.proofs.Hashed.{one_more}
use Rattle.renderreport.proofs.digest.hash_bytes.Goals as goal

pub returns-in-Ok-clause-hashed : goal.returns-in-Ok-clause-hashed
returns-in-Ok-clause-hashed g c = λ honest held.
    one_more (g.B.Bench.stored c.args.bench.now sound_name) c.args.at c.args.count _ c.update.new.self
    (c.in-Ok.ensures.read honest) (search rules) (c.update.ensures _ held)
