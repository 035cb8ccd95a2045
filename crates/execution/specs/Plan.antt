-- What a work is to do.
use Rattle.std.specs.Prelude.{◌≡◌, ◌≢◌, ℕ, ◌+◌, ◌<◌, ◌≤◌, Bool, false, true, Option, None, Some, List, length, slice_index_or, ⊤}
use Rattle.work_terms.specs.Disk.{Files, IsDurable}
use Rattle.job_terms.specs.Workers.{Jobs, JobsBy, jobs_over}
use Rattle.execution.specs.Filled.{AreParts}
use Rattle.execution.specs.Marking.{Leaves, Marking, is_started}

-- its jobs, the first of those that are marked together with each, whether jobs that are done get marks, the marks and
-- all bytes of each output by what the sources hold; and the names of its outputs by number, of which those from `last`
-- on come last, in this order
pub record JobPlan : Type 0 where
  pub jobs : JobsBy
  pub group : ℕ → ℕ
  pub marks : Bool
  pub marking : Files → Option Marking
  pub whole : Files → List ℕ → List ℕ
  pub output : ℕ → List ℕ
  pub last : ℕ
  pub outputs : ℕ

-- the sources hold what the work was planned of: each job's bytes are as many as it has, and a part of its output
pub record SourcesFit (plan : JobPlan) (sources : Files) : Type 0 where
  pub sized : (k : ℕ) → k < plan.jobs.count → length (plan.jobs.bytes sources k) ≡ plan.jobs.size k
  pub parts : AreParts (jobs_over plan.jobs sources) (plan.whole sources)

-- the output of this number comes last
abbrev pub IsLast : JobPlan → ℕ → Type 0
IsLast plan i = (plan.last ≤ i) × (i < plan.outputs)

-- a file of this name is no output of a job, and not the marks: it stays until what comes last is written
pub record Stays (plan : JobPlan) (name : List ℕ) : Type 0 where
  pub jobs : (k : ℕ) → k < plan.jobs.count → plan.jobs.name k ≢ name
  pub marks : (sources : Files) (m : Marking) → plan.marking sources ≡ Some m → m.marks ≢ name

-- a file of this name is none that the work writes
pub record IsForeign (plan : JobPlan) (name : List ℕ) : Type 0 where
  pub stays : Stays plan name
  pub last : (i : ℕ) → IsLast plan i → plan.output i ≢ name

-- an output of a job, or the marks
pub data IsOwn (plan : JobPlan) (name : List ℕ) : Type 0 where
  OfJob : (k : ℕ) → k < plan.jobs.count → plan.jobs.name k ≡ name → IsOwn plan name
  OfMarks : (sources : Files) (m : Marking) → plan.marking sources ≡ Some m → m.marks ≡ name → IsOwn plan name

-- the file has its whole length and its bytes outside of the jobs' places, in which it is zero
pub record IsBlank (jobs : Jobs) (name whole : List ℕ) (file : Option (List ℕ)) : Type 0 where
  pub bytes : List ℕ
  pub there : file ≡ Some bytes
  pub size : length bytes ≡ length whole
  pub outside : (i : ℕ) → ((k : ℕ) → k < jobs.count → jobs.name k ≡ name → jobs.at k ≤ i
      → i < jobs.at k + length (jobs.bytes k) → ⊥) → slice_index_or bytes i 0 ≡ slice_index_or whole i 0
  pub zero_within : (i k : ℕ) → k < jobs.count → jobs.name k ≡ name → jobs.at k ≤ i
      → i < jobs.at k + length (jobs.bytes k) → slice_index_or bytes i 0 ≡ 0

-- each output of a job is laid out
pub record AreBlank (jobs : Jobs) (whole : List ℕ → List ℕ) (files : Files) : Type 0 where
  pub each : (k : ℕ) → k < jobs.count → IsBlank jobs (jobs.name k) (whole (jobs.name k)) (files (jobs.name k))

-- each output of a job holds all its bytes
abbrev pub HoldJobs : JobPlan → Files → Files → Type 0
HoldJobs plan sources files =
    (k : ℕ) → k < plan.jobs.count → files (plan.jobs.name k) ≡ Some (plan.whole sources (plan.jobs.name k))

-- and so does each that comes last
abbrev pub HoldLast : JobPlan → Files → Files → Type 0
HoldLast plan sources files =
    (i : ℕ) → IsLast plan i → files (plan.output i) ≡ Some (plan.whole sources (plan.output i))

-- each of the last outputs with a number below `file` holds all its bytes
abbrev pub HoldBefore : JobPlan → ℕ → Files → Files → Type 0
HoldBefore plan file sources files =
    (i : ℕ) → IsLast plan i → i < file → files (plan.output i) ≡ Some (plan.whole sources (plan.output i))

-- a crash leaves each output of a job, and each that comes last, as it is read
pub record AreDurable (plan : JobPlan) (files : Files) (may_leave : Files → Type 0) : Type 0 where
  pub jobs : (k : ℕ) → k < plan.jobs.count → IsDurable (plan.jobs.name k) files may_leave
  pub last : (i : ℕ) → IsLast plan i → IsDurable (plan.output i) files may_leave

-- each output of a job with a number below `file` is laid out
abbrev pub AreBlankBefore : JobPlan → Files → ℕ → Files → Type 0
AreBlankBefore plan sources file files =
    (k i : ℕ) → k < plan.jobs.count → i < file → plan.output i ≡ plan.jobs.name k
    → IsBlank (jobs_over plan.jobs sources) (plan.jobs.name k) (plan.whole sources (plan.jobs.name k))
    (files (plan.jobs.name k))

-- each output with a number above `file` is as it was
abbrev pub AreKeptAfter : JobPlan → ℕ → Files → Files → Type 0
AreKeptAfter plan file old new =
    (i : ℕ) → file < i → i < plan.outputs → new (plan.output i) ≡ old (plan.output i)

-- In each outcome of a crash, marks that are started are this run's, none of them is set, and each output of a job is
-- laid out.
abbrev pub StartBlankBy : Option Marking → Jobs → (List ℕ → List ℕ) → (Files → Type 0) → Type 0
StartBlankBy None jobs whole outcomes = ⊤
StartBlankBy (Some m) jobs whole outcomes = (c : Files) → outcomes c → is_started (c m.marks) ≡ true
    → Leaves m (λ _. false) (λ _. false) c × AreBlank jobs whole c

-- the device failed at the output of this number
abbrev pub IsAt : JobPlan → ℕ → (List ℕ → Type 0) → Type 0
IsAt plan file failed = (file < plan.outputs) × failed (plan.output file)
