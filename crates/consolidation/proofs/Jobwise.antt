-- Which piece a job copies.
use Rattle.std.proofs.Common.{◌≡◌, ◌∙◌, inl, inr, ℕ, zero, suc, ◌+◌, ◌-◌, ◌*◌, ◌<◌, ◌≤◌, true, false, nat_le, List, [], ◌∷◌, ◌++◌, length, Some, refl, sym, ap, subst₂, arith, add-one, get_or, slice_get}
use Rattle.std.specs.List.Sorted.{IsNonDecreasingBy, IsPartitionPoint}
use Rattle.std.proofs.lemmas.Bool.{cases_lt}
use Rattle.std.proofs.lemmas.Bool.Decides.{nat_tests}
use Rattle.std.proofs.lemmas.Grind.{elements}
use Rattle.std.proofs.lemmas.List.Sorted.{IsNonDecreasingBy-from_default}
use Rattle.sampletime.specs.TimeCode.{day}
use Rattle.sound_terms.specs.declared.piece.Run.{Run}
use Rattle.mediacopy.specs.declared.piece.CopyJob.{CopyJob}
use Rattle.consolidation.specs.Ends.{AreEnds}
use Rattle.consolidation.specs.Pieces.{job_count, job_from, job_of, jobs_before, piece_from, pieces_in}

-- the job behind those of the runs before is one, and copies the piece of the run
piece_job_from : (place n : ℕ) (runs : List Run) (i : ℕ) (run : Run) (p : ℕ) → n ≡ place + i
    → slice_get runs i ≡ Some run → p < pieces_in run → (jobs_before runs i + p < job_count runs)
    × (job_from place runs (jobs_before runs i + p) ≡ piece_from n run p)
piece_job_from place n [] i run p is there below = absurd (cc)
piece_job_from place n (r ∷ rs) zero run p is there below = grind (arith, nat_tests, is, there, below)
piece_job_from place n (r ∷ rs) (suc i) run p is there below =
    grind (arith, nat_tests, piece_job_from (suc place) n rs i run p (omega (arith, is)) there below)

pub piece_job : (runs : List Run) (i : ℕ) (run : Run) (p : ℕ) → slice_get runs i ≡ Some run → p < pieces_in run
    → (jobs_before runs i + p < job_count runs) × (job_of runs (jobs_before runs i + p) ≡ piece_from i run p)
piece_job runs i run p there below = piece_job_from 0 i runs i run p (omega arith) there below

-- the piece of this number of one of the runs is that of job k
data IsJob (runs : List Run) (k : ℕ) : Type 0 where
  Copies : (i : ℕ) (run : Run) (p : ℕ) → slice_get runs i ≡ Some run → p < pieces_in run → k ≡ jobs_before runs i + p
      → IsJob runs k

-- each job copies one
found : (runs : List Run) (k : ℕ) → k < job_count runs → IsJob runs k
found [] k below = absurd (omega (arith, below))
found (r ∷ rs) k below = elim (cases_lt k (pieces_in r)) [
  | inl first ↦ Copies 0 r k refl first (omega arith)
  | inr past ↦ elim (found rs (k - pieces_in r) (omega (arith, below, past))) [
    | Copies i run p there inside at ↦ Copies (suc i) run p there inside (omega (arith, at, past))
  ]
]

-- what holds of each piece of a run and its job holds of each job
pub by_piece : (runs : List Run) (P : ℕ → CopyJob → Type 0) → ((i : ℕ) (run : Run) (p : ℕ) → slice_get runs i ≡ Some run
    → p < pieces_in run → P (jobs_before runs i + p) (piece_from i run p))
    → (k : ℕ) → k < job_count runs → P k (job_of runs k)
by_piece runs P each k below = elim (found runs k below) [
  | Copies i run p there inside at ↦
      let piece = ap (job_of runs) at ∙ (piece_job runs i run p there inside).1 in
      subst₂ P (sym at) (sym piece) (each i run p there inside)
]

-- before the first run there are no jobs
pub none_before : (runs : List Run) → jobs_before runs 0 ≡ 0
none_before [] = refl
none_before (r ∷ rs) = refl

-- one run more has its pieces more
before_more : (runs : List Run) (i : ℕ) (run : Run) → slice_get runs i ≡ Some run
    → jobs_before runs (suc i) ≡ jobs_before runs i + pieces_in run
before_more [] i run there = absurd (cc)
before_more (r ∷ rs) zero run there = grind (arith, there, none_before rs)
before_more (r ∷ rs) (suc i) run there = omega (arith, before_more rs i run there)

-- all jobs are before the end
pub before_all : (runs : List Run) → jobs_before runs (length runs) ≡ job_count runs
before_all [] = refl
before_all (r ∷ rs) = ap (λ (n : ℕ). pieces_in r + n) (before_all rs)

-- before a later run there are no fewer
before_rises : (runs : List Run) (i j : ℕ) → i ≤ j → jobs_before runs i ≤ jobs_before runs j
before_rises [] i j le = omega arith
before_rises (r ∷ rs) zero j le = omega arith
before_rises (r ∷ rs) (suc i) zero le = absurd (omega (arith, le))
before_rises (r ∷ rs) (suc i) (suc j) le = omega (arith, before_rises rs i j (omega (arith, le)))

-- a job by the place of its run, with so many others before it in its run
pub job_number : (runs : List Run) (place job before : ℕ) (run : Run) → slice_get runs place ≡ Some run
    → jobs_before runs place ≤ job → job < jobs_before runs (place + 1) → before ≡ jobs_before runs place
    → (job - before < pieces_in run) × (job_of runs job ≡ piece_from place run (job - before))
job_number runs place job before run there begun unended is =
    let more = before_more runs place run there in
    grind (arith, add-one, more, begun, unended, is, piece_job runs place run (job - before) there)

-- the ends of the runs before one; a run has at most as many pieces as a day
pub record AreEndsSoFar (runs : List Run) (i end : ℕ) (ends : List ℕ) : Type 0 where
  pub count : length ends ≡ i
  pub last : end ≡ jobs_before runs i
  pub few : end ≤ i * 63282
  pub each : (k : ℕ) → k < i → get_or ends k 0 ≡ jobs_before runs (k + 1)

-- the end of one run more
pub ends_next : (runs : List Run) (i end : ℕ) (ends : List ℕ) (run : Run) → AreEndsSoFar runs i end ends
    → slice_get runs i ≡ Some run → run.length ≤ day
    → AreEndsSoFar runs (i + 1) (end + pieces_in run) (ends ++ (end + pieces_in run) ∷ [])
ends_next runs i end ends run are there in_day =
    let more = before_more runs i run there in grind (arith, elements, add-one, more, are, in_day)

module _ (runs : List Run) (ends : List ℕ) (are : AreEnds runs ends) where
  -- ends don't fall
  pub ends_rise : IsNonDecreasingBy (λ (n : ℕ). n) ends
  ends_rise = IsNonDecreasingBy-from_default (λ (n : ℕ). n) ends 0 (λ i j le below.
      grind (arith, are.count, before_rises runs (i + 1) (j + 1), are.each i, are.each j, le, below))

  -- a run that all before have ended for has begun
  begun_by : (place job : ℕ) → place ≤ length ends
      → ((k d : ℕ) → 0 ≤ k → k < place → nat_le (get_or ends k d) job ≡ true) → jobs_before runs place ≤ job
  begun_by zero job within ended = omega (arith, none_before runs)
  begun_by (suc m) job within ended = grind (arith, nat_tests, add-one, are.each m, are.count, ended m 0, within)

  -- where those that have ended end
  pub located : (place job : ℕ) → job < job_count runs → place ≤ length ends
      → IsPartitionPoint (λ (n : ℕ). nat_le n job ≡ true) (λ (n : ℕ). nat_le n job ≡ false) ends place
      → (place < length runs) × (jobs_before runs place ≤ job) × (job < jobs_before runs (place + 1))
  located place job there within point =
      let begun = begun_by place job within point.0 in
      grind (arith, nat_tests, are.count, are.each place, before_all runs, begun, point.1 place 0, there, within)
