-- Media that are laid out: as long as the whole ones, the same outside of the jobs' places, and zero in these.
use Rattle.std.proofs.Common.{◌≡◌, ◌≢◌, ℕ, suc, ◌+◌, ◌-◌, ◌*◌, ◌/◌, ◌<◌, ◌≤◌, min, true, List, length, Some, Result, Ok, Err, get_or, ap, sym, add-one, arith, length-take, mul-le-mul_right, slice_get}
use Rattle.std.specs.Prelude.{IfErr, nat_lt, ⊤}
use Rattle.std.proofs.lemmas.Bool.Decides.{nat_tests}
use Rattle.std.proofs.lemmas.Grind.{elements}
use Rattle.std.proofs.lemmas.Option.{slice_get-get_or, slice_get_within}
use Rattle.sound_terms.specs.declared.piece.Run.{Run}
use Rattle.sound_terms.specs.Media.{frame_length, sound_at}
use Rattle.sound_terms.specs.Waves.{data_place, data_size, file_of, header_of, zeros}
use Rattle.work_terms.specs.Disk.{Files}
use Rattle.list_terms.specs.MediaNames.{media_name-injective}
use Rattle.list_terms.specs.Renewed.{media_name}
use Rattle.job_terms.specs.Workers.{jobs_over}
use Rattle.mediacopy.specs.declared.piece.CopyJob.{CopyJob}
use Rattle.mediacopy.specs.Copied.{laid_out}
use Rattle.mediacopy.specs.Pieces.{no_run, piece_bytes, piece_place, run_at}
use Rattle.execution.specs.Plan.{AreBlank, AreBlankBefore, IsBlank, SourcesFit}
use Rattle.execution.specs.declared.fault.OutputFault.{OutputFault}
use Rattle.consolidation.specs.Jobs.{work_of}
use Rattle.consolidation.specs.Media.{AreKeptFrom, IsLaidOut}
use Rattle.consolidation.specs.Outputs.{FailsAtMedium, job_plan, whole_output}
use Rattle.consolidation.specs.Pieces.{job_count, job_of, jobs_before, pieces_in}
use Rattle.consolidation.specs.Planned.{IsMediaPlan, MediaPlan}
use Rattle.consolidation.specs.Work.{run_info}
use Rattle.consolidation.proofs.Jobwise.{by_piece, piece_job}
use Rattle.consolidation.proofs.Spread.{frame_of}
use Rattle.consolidation.proofs.Wholes.{AreFull, full_by_pieces, full_piece, job_named, medium_run, piece_inside, same_place, whole_there}

-- one medium more is laid out
pub one_more_laid : (plan : MediaPlan) → IsMediaPlan plan → (i : ℕ) (old new : Files) → i < length plan.runs
    → ((n : List ℕ) → n ≢ media_name (i + 1) → new n ≡ old n) → ((k : ℕ) → k < i → IsLaidOut plan old k)
    → IsLaidOut plan new i → (k : ℕ) → k < i + 1 → IsLaidOut plan new k
one_more_laid plan is i old new inside others before now k below run there =
    let apart = media_name-injective (k + 1) (i + 1) in
    grind (arith, is.few, inside, apart, others (media_name (k + 1)), before k, now, below, there)

-- a medium that is written is none of the others
pub still_laid : (plan : MediaPlan) → IsMediaPlan plan → (i : ℕ) (old new : Files) → i < length plan.runs
    → ((n : List ℕ) → n ≢ media_name (i + 1) → new n ≡ old n) → ((k : ℕ) → k < i → IsLaidOut plan old k)
    → (k : ℕ) → k < i → IsLaidOut plan new k
still_laid plan is i old new inside others before k below run there =
    let apart = media_name-injective (k + 1) (i + 1) in
    grind (arith, is.few, inside, apart, others (media_name (k + 1)), before k, below, there)

pub kept_further : (plan : MediaPlan) → IsMediaPlan plan → (i : ℕ) (first old new : Files) → i < length plan.runs
    → ((n : List ℕ) → n ≢ media_name (i + 1) → new n ≡ old n) → AreKeptFrom plan i first old
    → AreKeptFrom plan (i + 1) first new
kept_further plan is i first old new inside others kept k past below =
    let apart = media_name-injective (k + 1) (i + 1) in
    grind (arith, is.few, inside, apart, others (media_name (k + 1)), kept k, past, below)

module _ (plan : MediaPlan) (is : IsMediaPlan plan) (sources : Files) where
  -- a byte among the samples of a run's medium
  abbrev IsAmong : Run → ℕ → Type 0
  IsAmong run q =
      let place = data_place (run_info plan.sounds plan.homes run) in
      (place ≤ q) × (q < place + run.length * frame_length (sound_at plan.sounds run.file))

  -- the piece has it
  abbrev HasAt : CopyJob → ℕ → Type 0
  HasAt piece q = (piece_place plan.sounds plan.runs piece ≤ q)
      × (q < piece_place plan.sounds plan.runs piece + length (piece_bytes sources plan.sounds plan.runs piece))

  -- a byte of a job's piece is one
  among : (k : ℕ) → k < job_count plan.runs → (q : ℕ) → HasAt (job_of plan.runs k) q
      → IsAmong (run_at plan.runs (job_of plan.runs k).run) q
  among = by_piece plan.runs (λ k piece. (q : ℕ) → HasAt piece q → IsAmong (run_at plan.runs piece.run) q)
      (λ i run p there below. rw there (λ q has.
      let inside = piece_inside run p (frame_length (sound_at plan.sounds run.file)) below in
      (omega (arith, has.0), omega (arith, has.1, length-take {A = ℕ}, inside))))

  -- and each of them is in the piece of a job
  has_job : AreFull plan is sources → (i : ℕ) (run : Run) (q : ℕ) → slice_get plan.runs i ≡ Some run → IsAmong run q
      → (k : ℕ) × (k < job_count plan.runs) × (media_name (suc (job_of plan.runs k).run) ≡ media_name (suc i))
      × HasAt (job_of plan.runs k) q
  has_job full i run q there has =
      let width = frame_length (sound_at plan.sounds run.file) in
      let place = data_place (run_info plan.sounds plan.homes run) in
      let at = frame_of width run.length (q - place) (omega (arith, has.0, has.1)) in
      let p : ℕ = at.0 / 65536 in
      let n : ℕ = min 65536 (run.length - p * 65536) in
      let inside : p < pieces_in run = omega (arith, at.1) in
      let start : p * 65536 * width ≤ at.0 * width = mul-le-mul_right width (omega arith) in
      let end : (at.0 + 1) * width ≤ (p * 65536 + n) * width = mul-le-mul_right width (omega (arith, at.1)) in
      let job = piece_job plan.runs i run p there inside in (
        jobs_before plan.runs i + p,
        job.0,
        ap (λ (piece : CopyJob). media_name (suc piece.run)) job.1,
        (
          rw (job.1, there) (omega (arith, start, at.2, has.0)),
          rw (job.1, full_piece plan is sources full i run p there inside, there) (omega (arith, end, at.3, has.0)),
        ),
      )

  -- a medium that is laid out is blank
  blank_output : AreFull plan is sources → (written : Files) (i : ℕ) (run : Run) → slice_get plan.runs i ≡ Some run
      → written (media_name (suc i)) ≡ Some (laid_out (run_info plan.sounds plan.homes run))
      → IsBlank (jobs_over (work_of plan) sources) (media_name (suc i)) (whole_output plan sources (media_name (suc i)))
      (written (media_name (suc i)))
  unfolding file_of zeros
  blank_output full written i run there laid =
      let info = run_info plan.sounds plan.homes run in
      let head_is = (medium_run plan is i run there).head in
      let whole = full i run there in
      let within = slice_get_within plan.runs i run there in
      rw (whole_there plan is sources i (suc i) run (omega arith) there) (record {
        bytes = laid_out info;
        there = laid;
        size = grind (arith, elements, whole);
        outside = λ q none.
            let apart : length (header_of info) ≤ q → q < length (header_of info) + data_size info → ⊥ = λ from to.
            let job = has_job full i run q there (omega (arith, from, head_is), omega (arith, to, head_is)) in
            none job.0 job.1 job.2 job.3.0 job.3.1 in
            grind (arith, elements, apart, whole);
        zero_within = λ q k below named from to.
            let own = same_place plan is (job_of plan.runs k).run i (job_named plan k below) within named in
            let at : IsAmong run q = rw (own, there) at (among k below q (from, to)) in
            grind (arith, elements, at, head_is);
      })

  -- so are all
  pub are_blank_outputs : SourcesFit (job_plan plan) sources → (written : Files)
      → ((i : ℕ) → i < length plan.runs → IsLaidOut plan written i)
      → AreBlank (jobs_over (work_of plan) sources) (whole_output plan sources) written
  are_blank_outputs fit written laid = record {
    each = by_piece plan.runs (λ k piece. IsBlank (jobs_over (work_of plan) sources) (media_name (suc piece.run))
        (whole_output plan sources (media_name (suc piece.run))) (written (media_name (suc piece.run))))
        (λ i run p there below.
        blank_output (full_by_pieces plan is sources fit.sized) written i run there
        (rw (add-one i) at (laid i (slice_get_within plan.runs i run there) run there)));
  }

  -- where the medium of a number failed, so are those before it
  blank_before : SourcesFit (job_plan plan) sources → (written : Files) (file : ℕ) → file < length plan.runs
      → ((k : ℕ) → k < file → IsLaidOut plan written k) → AreBlankBefore (job_plan plan) sources file written
  blank_before fit written file early laid k i below under same =
      let within : i < length plan.runs = omega (arith, under, early) in
      let test : nat_lt i (length plan.runs) ≡ true = grind (arith, nat_tests, within) in
      let own = same_place plan is (job_of plan.runs k).run i (job_named plan k below) within
      (sym (rw test at same)) in
      let there = slice_get-get_or plan.runs i no_run within in
      rw own (blank_output (full_by_pieces plan is sources fit.sized) written i _ there
      (rw (add-one i) at (laid i under _ there)))

  pub media_before : SourcesFit (job_plan plan) sources → (result : Result (Unit {0}) OutputFault) (written : Files)
      (failed : List ℕ → Type 0) → IfErr result (λ fault. ⊤ → FailsAtMedium (length plan.runs) fault failed)
      → IfErr result (λ fault. (k : ℕ) → k < fault.file → IsLaidOut plan written k)
      → IfErr result (λ fault. AreBlankBefore (job_plan plan) sources fault.file written)
  media_before fit (Ok x) written failed fails laid = tt
  media_before fit (Err fault) written failed fails laid = blank_before fit written fault.file (fails tt).0 laid
