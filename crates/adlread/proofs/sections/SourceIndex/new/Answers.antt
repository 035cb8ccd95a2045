use Rattle.adlread.proofs.Numbered.{AreSources-nil}
use Rattle.adlread.proofs.sections.SourceIndex.new.Goals as goal

pub invariant_of-result : goal.invariant_of-result
invariant_of-result c = record { whole = rw c.new.ensures AreSources-nil }
