use Rattle.std.proofs.Common.{◌+◌, ◌*◌, subst}
use Rattle.riff.specs.Found.{IsAhead}
use Rattle.riff.proofs.Reading.{ranged}
use Rattle.riff.proofs.entry.read_entries.Goals as goal

pub returns-clause-ahead : goal.returns-clause-ahead
returns-clause-ahead g c = λ honest file there.
    subst (λ i. IsAhead file (48 + 12 * i) c.read_at.new.buffer) c.from.ensures
    (ranged _ file _ _ (c.in_ok-read_at.ensures.read honest) there)
