-- The outputs of a consolidation by number: which names they have, and what stands in them.
use Rattle.std.proofs.Common.{◌≡◌, ◌≢◌, ◌∙◌, ℕ, suc, ◌+◌, ◌-◌, ◌<◌, ◌≤◌, Bool, true, inl, inr, IsTrue, List, length, Some, is_some, Result, Ok, Err, OnOk, codes, refl, sym, ap, add-one, arith, get_or}
use Rattle.std.proofs.lemmas.Bool.{cases_lt}
use Rattle.std.proofs.lemmas.Bool.Decides.{nat_tests}
use Rattle.std.proofs.lemmas.Option.{slice_get-get_or}
use Rattle.std.specs.Prelude.{IfErr, nat_lt, ⊤}
use Rattle.work_terms.specs.Disk.{Files, IsDurable}
use Rattle.list_terms.specs.Renewed.{media_name}
use Rattle.mediacopy.specs.declared.piece.CopyJob.{CopyJob}
use Rattle.mediacopy.specs.Pieces.{no_run}
use Rattle.execution.specs.Plan.{AreKeptAfter, HoldBefore, HoldLast, IsAt, IsForeign, IsLast, IsOwn, OfJob, OfMarks, Stays}
use Rattle.execution.specs.declared.fault.OutputFault.{OutputFault}
use Rattle.consolidation.specs.Consolidated.{IsBehind, IsElsewhere}
use Rattle.consolidation.specs.Media.{AreKeptFrom, IsNoMedium}
use Rattle.consolidation.specs.Outputs.{AreNamedOutputs, FailsAtMedium, job_plan, whole_output}
use Rattle.consolidation.specs.Pieces.{job_count, job_of}
use Rattle.consolidation.specs.Planned.{IsMediaPlan, MediaPlan}
use Rattle.consolidation.specs.Reported.{IsReportThere, IsSumsThere}
use Rattle.consolidation.proofs.Wholes.{first_job, job_named}

-- what holds of the list and of the files of the report, where there is one
abbrev pub OfLast : (List ℕ → Type 0) → (reported : Bool) → Type 0
OfLast P reported =
    P (codes "consolidated.adl") × (IsTrue reported → P (codes "SHA256SUMS") × P (codes "consolidated.json"))

-- a medium is none of the files that come last: each of these begins with another letter
other_name : (number : ℕ) (name : List ℕ) → get_or name 0 0 ≢ 77 → media_name number ≢ name
unfolding media_name
other_name number name other same = other (sym (ap (λ (bytes : List ℕ). get_or bytes 0 0) same))

medium_behind : (reported : Bool) (number : ℕ) → IsBehind reported (media_name number)
medium_behind reported number = record {
  no_list = other_name number _ (omega arith);
  no_report = λ told. (other_name number _ (omega arith), other_name number _ (omega arith));
}

module _ (plan : MediaPlan) where
  -- what holds of them holds of each number, and the other way round
  pub each_last : (P : List ℕ → Type 0) → OfLast P (is_some plan.report) → (i : ℕ) → IsLast (job_plan plan) i
      → P ((job_plan plan).output i)
  each_last P of i last = grind (arith, nat_tests, of, last)

  of_each : (P : List ℕ → Type 0) → ((i : ℕ) → IsLast (job_plan plan) i → P ((job_plan plan).output i))
      → OfLast P (is_some plan.report)
  of_each P each = (
    grind (arith, nat_tests, each (length plan.runs), each (length plan.runs + 2)),
    λ told. (
      grind (arith, nat_tests, told, each (length plan.runs)),
      grind (arith, nat_tests, told, each (length plan.runs + 1)),
    ),
  )

  -- what stands in them is what the plan says of them, and the other way round
  pub last_there : (sources written : Files) → written (codes "consolidated.adl") ≡ Some plan.text
      → IsReportThere plan.report written → HoldLast (job_plan plan) sources written
  last_there sources written list report =
      each_last (λ n. written n ≡ Some (whole_output plan sources n)) (list, λ told. grind (arith, told, report))

  pub holds_last : (sources written : Files) → HoldLast (job_plan plan) sources written
      → (written (codes "consolidated.adl") ≡ Some plan.text) × IsReportThere plan.report written
  holds_last sources written holds =
      let of = of_each (λ n. written n ≡ Some (whole_output plan sources n)) holds in
      (of.0, grind (arith, of.1))

  -- what holds of the files of the report holds of each of them before the one that failed
  each_before : (P : List ℕ → Type 0) (file : ℕ) → file < (job_plan plan).outputs
      → (IsTrue (is_some plan.report) → (length plan.runs < file → P (codes "SHA256SUMS"))
      × (length plan.runs + 1 < file → P (codes "consolidated.json")))
      → (i : ℕ) → IsLast (job_plan plan) i → i < file → P ((job_plan plan).output i)
  each_before P file few of i last under = grind (arith, nat_tests, few, of, last, under)

  -- if one of the last files fails, those before it are complete
  pub before_there : (sources written : Files) (file : ℕ) → file < (job_plan plan).outputs
      → (length plan.runs < file → IsSumsThere plan.report written)
      → (length plan.runs + 2 ≤ file → IsReportThere plan.report written)
      → HoldBefore (job_plan plan) file sources written
  before_there sources written file few sums report =
      each_before (λ n. written n ≡ Some (whole_output plan sources n)) file few (λ told. (
        λ past. grind (arith, told, sums past),
        λ past. grind (arith, told, report (omega (arith, past))),
      ))

  pub before_failed : (result : Result (Unit {0}) OutputFault) (sources written : Files) (failed : List ℕ → Type 0)
      → IfErr result (λ fault. ⊤ → IsAt (job_plan plan) fault.file failed)
      → IfErr result (λ fault. length plan.runs < fault.file → IsSumsThere plan.report written)
      → IfErr result (λ fault. length plan.runs + 2 ≤ fault.file → IsReportThere plan.report written)
      → IfErr result (λ fault. HoldBefore (job_plan plan) fault.file sources written)
  before_failed (Ok x) sources written failed at sums report = tt
  before_failed (Err fault) sources written failed at sums report =
      before_there sources written fault.file (at tt).0 sums report

  -- a file that the work doesn't write is none of them
  pub foreign_behind : (n : List ℕ) → IsForeign (job_plan plan) n → IsBehind (is_some plan.report) n
  foreign_behind n foreign = let of = of_each (λ name. name ≢ n) foreign.last in grind (arith, of)

  -- a file that is none of a consolidation is none that the work writes
  pub foreign_elsewhere : (reported : Bool) → is_some plan.report ≡ reported → (n : List ℕ)
      → IsElsewhere reported (length plan.runs) n → IsForeign (job_plan plan) n
  foreign_elsewhere reported same n elsewhere = record {
    stays = record {
      jobs = λ k below named.
          elsewhere.no_medium (suc (job_of plan.runs k).run) (omega arith) (job_named plan k below) (sym named);
      marks = λ sources m is_marked. absurd (cc);
    };
    last = each_last (λ name. name ≢ n) (grind (arith, elsewhere.no_list), grind (arith, same, elsewhere.no_report));
  }

  -- no medium is one of them
  last_stays : (i : ℕ) → IsLast (job_plan plan) i → Stays (job_plan plan) ((job_plan plan).output i)
  last_stays i last = record {
    jobs = λ k below.
        let medium : List ℕ = media_name (suc (job_of plan.runs k).run) in
        let behind = medium_behind (is_some plan.report) (suc (job_of plan.runs k).run) in
        each_last (λ name. medium ≢ name) (behind.no_list, behind.no_report) i last;
    marks = λ sources m is_marked. absurd (cc);
  }

  -- a failure at a medium, by its number
  pub at_medium : (fault : OutputFault) (failed : List ℕ → Type 0) → FailsAtMedium (length plan.runs) fault failed
      → IsAt (job_plan plan) fault.file failed
  at_medium fault failed fails = grind (arith, nat_tests, fails)

  -- what keeps them as durable keeps the outputs of jobs so
  pub media_durable : (stored now : Files) (may_leave leaves : Files → Type 0)
      → ((n : List ℕ) → IsBehind (is_some plan.report) n → IsDurable n stored may_leave → IsDurable n now leaves)
      → ((k : ℕ) → k < length plan.runs → IsDurable (media_name (k + 1)) stored may_leave)
      → (k : ℕ) → k < (job_plan plan).jobs.count → IsDurable ((job_plan plan).jobs.name k) now leaves
  media_durable stored now may_leave leaves keeps durable k below =
      let place = (job_of plan.runs k).run in
      keeps (media_name (suc place)) (medium_behind (is_some plan.report) (suc place))
      (rw (add-one place) at (durable place (job_named plan k below)))

  -- an output of a job is none of the files that come last
  pub own_behind : (n : List ℕ) → IsOwn (job_plan plan) n → IsBehind (is_some plan.report) n
  own_behind n (OfJob k below same) =
      rw same at (medium_behind (is_some plan.report) (suc (job_of plan.runs k).run))
  own_behind n (OfMarks sources m is_marked same) = absurd (cc)

module _ (plan : MediaPlan) (is : IsMediaPlan plan) where
  -- the medium of each run has a job
  medium_job : (k n : ℕ) → n ≡ 1 + k → k < length plan.runs
      → (j : ℕ) × (j < job_count plan.runs) × (media_name (suc (job_of plan.runs j).run) ≡ media_name n)
  medium_job k n next below =
      let job = first_job plan is k (get_or plan.runs k no_run) (slice_get-get_or plan.runs k no_run below) in
      let counted : suc k ≡ n = omega (arith, next) in
      (_, job.0, ap (λ (piece : CopyJob). media_name (suc piece.run)) job.1 ∙ ap media_name counted)

  -- a file that no job writes is no medium
  pub no_medium : (n : List ℕ) → Stays (job_plan plan) n → IsNoMedium (length plan.runs) n
  no_medium n stays number some few same =
      let has = medium_job (number - 1) number (omega (arith, some)) (omega (arith, some, few)) in
      stays.jobs has.0 has.1 (has.2 ∙ sym same)

  -- the names of the outputs
  pub named_outputs : AreNamedOutputs plan
  named_outputs = record {
    media = λ k below. medium_job k (1 + k) refl below;
    list = λ i last. grind (arith, nat_tests, last);
    report = λ told. grind (arith, nat_tests, told);
    last = last_stays plan;
    elsewhere = foreign_elsewhere plan (is_some plan.report) refl;
  }

  -- a medium that failed comes before those that come last
  pub media_early : (result : Result (Unit {0}) OutputFault) (failed : List ℕ → Type 0)
      → IfErr result (λ fault. ⊤ → FailsAtMedium (length plan.runs) fault failed)
      → IfErr result (λ fault. fault.file < (job_plan plan).last)
  media_early (Ok x) failed fails = tt
  media_early (Err fault) failed fails = (fails tt).0

  -- and the outputs after it are as they were
  kept_after : (file : ℕ) (old new : Files) → ((n : List ℕ) → IsNoMedium (length plan.runs) n → new n ≡ old n)
      → AreKeptFrom plan (file + 1) old new → AreKeptAfter (job_plan plan) file old new
  kept_after file old new others kept i past inside = elim (cases_lt i (length plan.runs)) [
    | inl below ↦
        let test : nat_lt i (length plan.runs) ≡ true = grind (arith, nat_tests, below) in
        rw test (rw (add-one i) at (kept i (omega (arith, past)) below))
    | inr behind ↦ others _ (no_medium _ (last_stays plan i (behind, inside)))
  ]

  pub media_after : (result : Result (Unit {0}) OutputFault) (old new : Files)
      → ((n : List ℕ) → IsNoMedium (length plan.runs) n → new n ≡ old n)
      → IfErr result (λ fault. AreKeptFrom plan (fault.file + 1) old new)
      → IfErr result (λ fault. AreKeptAfter (job_plan plan) fault.file old new)
  media_after (Ok x) old new others kept = tt
  media_after (Err fault) old new others kept = kept_after fault.file old new others kept

-- what follows from two things where there is a value follows there
pub both_ok : {X E P Q R : Type 0} (result : Result X E) → OnOk result P → OnOk result Q → (P → Q → R)
    → OnOk result R
both_ok (Ok x) p q so = so p q
both_ok (Err e) p q so = tt
