use Rattle.std.proofs.Common.{inl, inr, refl}
use Rattle.consolidation.proofs.Writes.{then_writes, wider}
use Rattle.consolidation.proofs.last.write_report_outputs.Goals as goal

pub returns-in-Err-clause-only_writes : goal.returns-in-Err-clause-only_writes
returns-in-Err-clause-only_writes g c = wider g.B.Bench _ _ (λ n none. (none refl).0)
    (λ failed fails. inl (refl, failed fails)) c.in-Err.ensures.only_writes

pub returns-in-Err-write_file-clause-only_writes : goal.returns-in-Err-write_file-clause-only_writes
returns-in-Err-write_file-clause-only_writes g c = then_writes g.B.Bench _ tt
    (wider g.B.Bench _ _ (λ n none. (none refl).0) (λ failed. failed) c.in-Ok.ensures.only_writes)
    (wider g.B.Bench _ _ (λ n none. (none refl).1) (λ failed fails. inr (refl, failed fails))
    c.in-Err-write_file.ensures.only_writes)
