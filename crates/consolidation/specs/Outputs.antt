-- A consolidation as a work: its outputs by number, the media in the order of their runs and then those that come last.
use Rattle.std.specs.Prelude.{◌≡◌, ◌⊎◌, ℕ, zero, suc, ◌+◌, ◌-◌, ◌<◌, ◌≤◌, nat_lt, cond, bytes_eq, Bool, IsTrue, false, true, List, [], length, Option, None, Some, is_some, codes}
use Rattle.work_terms.specs.Disk.{Files}
use Rattle.list_terms.specs.Renewed.{media_name}
use Rattle.provenance.specs.declared.report.Report.{Report}
use Rattle.job_terms.specs.Workers.{jobs_over}
use Rattle.execution.specs.Filled.{AreApart}
use Rattle.execution.specs.Plan.{IsForeign, IsLast, JobPlan, SourcesFit, Stays}
use Rattle.execution.specs.declared.fault.OutputFault.{OutputFault}
use Rattle.consolidation.specs.Consolidated.{IsElsewhere}
use Rattle.consolidation.specs.Jobs.{whole_of, work_of}
use Rattle.consolidation.specs.Planned.{MediaPlan}
use Rattle.consolidation.specs.There.{AreThere}

-- the file at a position among those that come last: the checksums and the report, where there is one, and the list
abbrev pub last_name : (reported : Bool) → ℕ → List ℕ
last_name false position = codes "consolidated.adl"
last_name true zero = codes "SHA256SUMS"
last_name true (suc zero) = codes "consolidated.json"
last_name true (suc (suc position)) = codes "consolidated.adl"

-- how many these are
abbrev pub last_count : Bool → ℕ
last_count false = 1
last_count true = 3

-- the name of the output of a number, counted from 0, of a consolidation to so many media
abbrev pub output_name : (media : ℕ) (reported : Bool) → ℕ → List ℕ
output_name media reported i = cond (nat_lt i media) (media_name (suc i)) (last_name reported (i - media))

abbrev pub output_count : (media : ℕ) (reported : Bool) → ℕ
output_count media reported = media + last_count reported

abbrev pub sums_of : Option Report → List ℕ
sums_of None = []
sums_of (Some report) = report.sums.items

abbrev pub json_of : Option Report → List ℕ
json_of None = []
json_of (Some report) = report.json.items

-- all bytes of the output of a name: a medium by what the sources hold, and what comes last as it is planned
abbrev pub whole_output : MediaPlan → Files → List ℕ → List ℕ
whole_output plan sources name =
    cond (bytes_eq (codes "consolidated.adl") name) plan.text
    (cond (bytes_eq (codes "SHA256SUMS") name) (sums_of plan.report)
    (cond (bytes_eq (codes "consolidated.json") name) (json_of plan.report) (whole_of plan sources name)))

-- each piece is a job, and none gets a mark
abbrev pub job_plan : MediaPlan → JobPlan
job_plan plan = record {
  jobs = work_of plan;
  group = λ k. k;
  marks = false;
  marking = λ _. None;
  whole = whole_output plan;
  output = output_name (length plan.runs) (is_some plan.report);
  last = length plan.runs;
  outputs = output_count (length plan.runs) (is_some plan.report);
}

-- sources that are there hold what was planned of them, and the bytes of no two jobs meet
abbrev pub FitsSources : MediaPlan → Type 0
FitsSources plan = (sources : Files) → AreThere sources plan.sounds
    → SourcesFit (job_plan plan) sources × AreApart (jobs_over (job_plan plan).jobs sources)

-- which names the outputs have: each medium is that of a job, the list is the last of all and the files of the report
-- come before it; what comes last is no output of a job, and a file that is none of a consolidation is no output
pub record AreNamedOutputs (plan : MediaPlan) : Type 0 where
  pub media : (k : ℕ) → k < length plan.runs
      → (j : ℕ) × (j < (job_plan plan).jobs.count) × ((job_plan plan).jobs.name j ≡ media_name (1 + k))
  pub list : (i : ℕ) → i + 1 ≡ (job_plan plan).outputs → (length plan.runs ≤ i)
      × ((job_plan plan).output i ≡ codes "consolidated.adl")
  pub report : IsTrue (is_some plan.report) → ((job_plan plan).outputs ≡ length plan.runs + 3)
      × ((job_plan plan).output (length plan.runs) ≡ codes "SHA256SUMS")
      × ((job_plan plan).output (length plan.runs + 1) ≡ codes "consolidated.json")
  pub last : (i : ℕ) → IsLast (job_plan plan) i → Stays (job_plan plan) ((job_plan plan).output i)
  pub elsewhere : (n : List ℕ) → IsElsewhere (is_some plan.report) (length plan.runs) n
      → IsForeign (job_plan plan) n

-- the device failed at the medium of this number, one of so many
abbrev pub FailsAtMedium : ℕ → OutputFault → (List ℕ → Type 0) → Type 0
FailsAtMedium media fault failed = (fault.file < media) × failed (media_name (fault.file + 1))

-- or at a file of the report, of which the checksums have this number
abbrev pub FailsAtReport : ℕ → OutputFault → (List ℕ → Type 0) → Type 0
FailsAtReport first fault failed =
    ((fault.file ≡ first) × failed (codes "SHA256SUMS")) ⊎ ((fault.file ≡ first + 1) × failed (codes "consolidated.json"))
