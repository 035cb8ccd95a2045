-- Which refusal is due of what is planned, and which may come in its place.
use Rattle.std.proofs.Common.{◌≡◌, ℕ, ◌≤◌, List, length, arith}
use Rattle.std.proofs.lemmas.Bool.Decides.{nat_tests}
use Rattle.work_terms.specs.Refusals.{IsDue}
use Rattle.list_terms.specs.Binding.{Binding}
use Rattle.list_terms.specs.BoundHomes.{homes_of}
use Rattle.mediaset.specs.Runs.{HomedRuns}
use Rattle.relink.specs.declared.fault.RelinkFault.TheVariants as relink
use Rattle.sound_terms.specs.Homes.{kept_of, place_by}
use Rattle.sound_terms.specs.Kept.{AreRuns}
use Rattle.sound_terms.specs.declared.piece.Piece.{Piece}
use Rattle.consolidation.specs.Consolidated.{Work, work_fault}
use Rattle.consolidation.specs.Fault.{refusal_of}
use Rattle.consolidation.specs.Own.{IsOfLinking}
use Rattle.consolidation.specs.Planned.{AreKeptRuns}
use Rattle.consolidation.specs.declared.fault.ConsolidationFault.{ConsolidationFault}
use Rattle.consolidation.specs.declared.fault.ConsolidationFault.TheVariants as fault

-- the runs of a work round groups whose runs are known
pub few_runs : (work : Work) {binding : Binding} {handle : ℕ} {groups : List (List Piece)} {kept : HomedRuns}
    → AreKeptRuns binding handle groups kept → work.groups ≡ groups
    → AreRuns (kept_of work.groups (homes_of binding) handle) (place_by (homes_of binding)) work.runs
    → length work.runs ≤ 32767
few_runs work is same are = rw (is.one work.runs (rw same at are)) is.few

-- a fault of the list comes in turn
pub linking_due : (work : Work) (count : ℕ) (f : ConsolidationFault) → length work.groups ≡ count
    → length work.runs ≤ 32767 → IsOfLinking count f → IsDue (refusal_of f) (work_fault work)
linking_due work count (fault.Relink relink.TooManyEntries) counted few many =
    grind (arith, nat_tests, counted, few, many)
linking_due work count (fault.Relink relink.Memory) counted few own = grind (arith, nat_tests, few)
linking_due work count _ counted few own = absurd own
