use Rattle.std.proofs.Common.{◌≡◌, ◌∙◌, sym}
use Rattle.passes.specs.Left.{standard_left}
use Rattle.consolidate.proofs.schedule_call.run_schedule_by.Goals as goal

pub returns-in-Consolidate-clause-consolidated : goal.returns-in-Consolidate-clause-consolidated
returns-in-Consolidate-clause-consolidated g c list handle passes order is =
    let same = sym c.in-Consolidate.is ∙ is in
    let same_list : c.in-Consolidate.list ≡ list = cc in
    let same_handle : c.in-Consolidate.handle ≡ handle = cc in
    let same_passes : c.in-Consolidate.passes ≡ passes = cc in
    rw (← same_list, ← same_handle, ← same_passes) c.schedule_media.ensures

pub returns-in-Consolidate-clause-standard : goal.returns-in-Consolidate-clause-standard
returns-in-Consolidate-clause-standard g c list handle passes order is are = rw (standard_left _ _ passes.items are) at
    (returns-in-Consolidate-clause-consolidated g c list handle passes order is)
