use Rattle.opening.proofs.MoreTold.{devices_of_first}
use Rattle.opening.proofs.further.further_faults.Goals as goal

pub returns-clause-counted : goal.returns-clause-counted
returns-clause-counted g c = λ devices.
    c.in_ok-all.ensures.counted
    (devices_of_first c.args.most c.in_ok-all.all.items (rw c.of.ensures.cut.0 at devices))
