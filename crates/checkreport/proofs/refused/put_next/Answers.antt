use Rattle.std.proofs.Common.{◌∷◌}
use Rattle.checkreport.specs.Explained.{explained_data}
use Rattle.checkreport.specs.Parts.{fault_text, ready_data}
use Rattle.checkreport.proofs.Arrays.{fault_printed}
use Rattle.checkreport.proofs.Parts.{next_text}
use Rattle.checkreport.proofs.refused.put_next.Goals as goal

pub returns-clause-printed : goal.returns-clause-printed
returns-clause-printed g c =
    fault_printed g.O.Console (λ one. 44 ∷ fault_text one) c.args.fault.now (explained_data c.in_ok-ready.ready.explained)
    (ready_data c.in_ok-ready.ready)
    (next_text (record { fault = c.args.fault.now; explained = explained_data c.in_ok-ready.ready.explained })
    (ready_data c.in_ok-ready.ready)
    c.in_ok-ready.ensures) c.put.ensures c.put-2.ensures
