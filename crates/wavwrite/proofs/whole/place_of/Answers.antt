use Rattle.std.proofs.Common.{subst}
use Rattle.wavwrite.specs.Info.{IsReadBack}
use Rattle.wavwrite.proofs.whole.place_of.Goals as goal

pub returns-clause-reads_back : goal.returns-clause-reads_back
returns-clause-reads_back c = subst IsReadBack c.lent-info.ensures c.reads_back.ensures.reads_back
