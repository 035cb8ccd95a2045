use Rattle.std.proofs.Common.{subst}
use Rattle.wavwrite.specs.Info.{IsReadBack}
use Rattle.wavwrite.proofs.whole.header.Goals as goal

pub returns-in_err-resize-clause-reads_back : goal.returns-in_err-resize-clause-reads_back
returns-in_err-resize-clause-reads_back c = subst IsReadBack c.lent-info.ensures c.reads_back.ensures.reads_back

pub returns-clause-reads_back : goal.returns-clause-reads_back
returns-clause-reads_back c = subst IsReadBack c.lent-info.ensures c.reads_back.ensures.reads_back
