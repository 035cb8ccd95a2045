use Rattle.std.proofs.lemmas.Result.{err_from_is_err_and}
use Rattle.opening.proofs.further.beside_entry.Goals as goal

pub returns-in_err-faults-clause-untold : goal.returns-in_err-faults-clause-untold
returns-in_err-faults-clause-untold g c =
    let p = err_from_is_err_and c.from_residual-in_err-faults.result c.from_residual-in_err-faults.ensures.1 in
    rw (p.1, p.2) tt
