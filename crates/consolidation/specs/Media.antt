-- Media by the runs that they are of.
use Rattle.std.specs.Prelude.{◌≡◌, ◌≢◌, ℕ, ◌+◌, ◌<◌, ◌≤◌, List, length, Some, slice_get}
use Rattle.sound_terms.specs.declared.piece.Run.{Run}
use Rattle.work_terms.specs.Disk.{Files}
use Rattle.devices.specs.declared.bench.Bench.{Ghosts}
use Rattle.list_terms.specs.Renewed.{media_name}
use Rattle.mediacopy.specs.Copied.{laid_out}
use Rattle.consolidation.specs.Planned.{MediaPlan}
use Rattle.consolidation.specs.Work.{run_info}

-- the name of none of so many media
abbrev pub IsNoMedium : ℕ → List ℕ → Type 0
IsNoMedium media name = (number : ℕ) → 1 ≤ number → number ≤ media → name ≢ media_name number

-- the medium of the run at this place is laid out
abbrev pub IsLaidOut : MediaPlan → Files → ℕ → Type 0
IsLaidOut plan written k = (run : Run) → slice_get plan.runs k ≡ Some run
    → written (media_name (k + 1)) ≡ Some (laid_out (run_info plan.sounds plan.homes run))

-- the media of the runs from this place on are as they were
abbrev pub AreKeptFrom : MediaPlan → ℕ → (old new : Files) → Type 0
AreKeptFrom plan from old new =
    (k : ℕ) → from ≤ k → k < length plan.runs → new (media_name (k + 1)) ≡ old (media_name (k + 1))

-- a crash leaves nothing that it couldn't leave before
abbrev pub Narrows : {B : Type 0} → Ghosts B → B → B → Type 0
Narrows bench old new = (c : Files) → bench.may_leave new c → bench.may_leave old c
