use Rattle.std.proofs.Common.{[]}
use Rattle.checkreport.specs.Explained.{explained_data}
use Rattle.checkreport.specs.Parts.{ready_data, refused_front}
use Rattle.checkreport.proofs.Arrays.{fault_printed}
use Rattle.checkreport.proofs.Parts.{front_first}
use Rattle.checkreport.proofs.refused.put_first.Goals as goal

pub returns-clause-printed : goal.returns-clause-printed
returns-clause-printed g c =
    fault_printed g.O.Console (λ one. refused_front one []) c.args.first.now (explained_data c.in_ok-ready.ready.explained)
    (ready_data c.in_ok-ready.ready)
    (front_first (record { fault = c.args.first.now; explained = explained_data c.in_ok-ready.ready.explained })
    (ready_data c.in_ok-ready.ready)
    c.in_ok-ready.ensures) c.put.ensures c.put-2.ensures
