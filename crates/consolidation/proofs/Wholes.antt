-- The media of runs over sources that are there: cut into pieces, and whole.
use Rattle.std.proofs.Common.{◌≡◌, ◌≢◌, ◌∙◌, ◌⊎◌, ℕ, zero, suc, ◌+◌, ◌-◌, ◌*◌, ◌/◌, ◌<◌, ◌≤◌, min, List, [], ◌∷◌, length, Some, refl, ap, arith, length-take, mul-le-mul_right, slice_get}
use Rattle.std.proofs.lemmas.Option.{slice_get_within}
use Rattle.std.proofs.lemmas.Slice.Eq.{bytes_eq-Decides}
use Rattle.facts.specs.Lists.{holds_there}
use Rattle.sound_terms.specs.declared.piece.Home.{Home}
use Rattle.sound_terms.specs.declared.piece.Piece.{Piece}
use Rattle.sound_terms.specs.declared.piece.Run.{Run}
use Rattle.sound_terms.specs.Media.{IsRunOf, frame_length, frames_in, sound_at}
use Rattle.sound_terms.specs.Sounds.{SoundFacts}
use Rattle.sound_terms.specs.Waves.{file_of, header_of}
use Rattle.work_terms.specs.Disk.{Files}
use Rattle.list_terms.specs.Binding.{Binding}
use Rattle.list_terms.specs.MediaNames.{media_name-injective, other_media_name}
use Rattle.list_terms.specs.Project.{ListProject}
use Rattle.list_terms.specs.Renewed.{media_name}
use Rattle.job_terms.specs.Workers.{jobs_over}
use Rattle.execution.specs.Filled.{AreApart}
use Rattle.execution.specs.Plan.{HoldJobs, SourcesFit}
use Rattle.mediacopy.specs.declared.piece.CopyJob.{CopyJob}
use Rattle.mediacopy.specs.Copied.{HasFrames}
use Rattle.mediacopy.specs.Pieces.{IsPieceOf, content, piece_bytes, piece_length, piece_place, run_at}
use Rattle.consolidation.specs.Jobs.{medium_by, whole_from, whole_of, work_of}
use Rattle.consolidation.specs.Outputs.{FitsSources, job_plan, whole_output}
use Rattle.consolidation.specs.Pieces.{job_count, job_of, jobs_before, piece_from, pieces_in}
use Rattle.consolidation.specs.Planned.{IsMediaPlan, IsMediumRun, IsPlanned, MediaPlan}
use Rattle.consolidation.specs.There.{AreThere, IsThere}
use Rattle.consolidation.specs.Work.{run_info}
use Rattle.consolidation.proofs.Jobwise.{by_piece, piece_job}
use Rattle.consolidation.proofs.Spread.{StandsIn, length-by_last, length-part, part_stands}

-- the source of a run of an opened file is there, with all of its frames
pub source_there : (sounds : List SoundFacts) (sources : Files) (run : Run) → IsRunOf sounds run
    → AreThere sources sounds
    → (sources (sound_at sounds run.file).name ≡ Some (content sources (sound_at sounds run.file).name))
    × HasFrames (sound_at sounds run.file) (content sources (sound_at sounds run.file).name)
source_there sounds sources run of_file all =
    let file = holds_there (IsThere sources) sounds run.file of_file.facts all of_file.there in
    rw (of_file.there, file.there) (refl, file.frames)

-- the medium of a run is found by its name
medium_found : (sounds : List SoundFacts) (homes : List Home) (sources : Files) (number n : ℕ) (runs : List Run)
    (i : ℕ) (run : Run) → n ≡ number + i → number + length runs ≤ 100000 → slice_get runs i ≡ Some run
    → whole_from sounds homes sources number runs (media_name n) ≡ medium_by sounds homes sources run
medium_found sounds homes sources number n [] i run is few there = absurd (cc)
medium_found sounds homes sources number n (r ∷ rs) zero run is few there =
    grind (arith, is, there, bytes_eq-Decides (media_name number) (media_name number))
medium_found sounds homes sources number n (r ∷ rs) (suc i) run is few there =
    let later = medium_found sounds homes sources (suc number) n rs i run (omega (arith, is)) (omega (arith, few)) there
    in
    grind (arith, is, few, slice_get_within rs i run there, other_media_name number n, later)

-- a piece of a run ends where the run does, or before
pub piece_inside : (run : Run) (p width : ℕ) → p < pieces_in run
    → p * 65536 * width + min 65536 (run.length - p * 65536) * width ≤ run.length * width
piece_inside run p width below =
    let most : (p * 65536 + min 65536 (run.length - p * 65536)) * width ≤ run.length * width =
    mul-le-mul_right width (omega (arith, below)) in
    omega (arith, most)

module _ (plan : MediaPlan) where
  -- the number of a job's medium is one of the runs'
  pub job_named : (k : ℕ) → k < job_count plan.runs → (job_of plan.runs k).run < length plan.runs
  job_named = by_piece plan.runs (λ k piece. piece.run < length plan.runs)
      (λ i run p there below. slice_get_within plan.runs i run there)

  -- no medium has the name of a file that comes last
  medium_whole : (sources : Files) (number : ℕ)
      → whole_output plan sources (media_name number) ≡ whole_of plan sources (media_name number)
  unfolding media_name
  medium_whole sources number = refl

  -- the places of two pieces don't meet
  abbrev Apart : Files → CopyJob → CopyJob → Type 0
  Apart sources p q = (piece_place plan.sounds plan.runs p + length (piece_bytes sources plan.sounds plan.runs p)
      ≤ piece_place plan.sounds plan.runs q)
      ⊎ (piece_place plan.sounds plan.runs q + length (piece_bytes sources plan.sounds plan.runs q)
      ≤ piece_place plan.sounds plan.runs p)

  -- a piece of a run ends where a later one begins, or before
  ends_before : (sources : Files) (place : ℕ) (one other : Run) (p q : ℕ) → p < q
      → piece_place plan.sounds plan.runs (piece_from place one p)
      + length (piece_bytes sources plan.sounds plan.runs (piece_from place one p))
      ≤ piece_place plan.sounds plan.runs (piece_from place other q)
  ends_before sources place one other p q less =
      let width = frame_length (sound_at plan.sounds (run_at plan.runs place).file) in
      let most : (p * 65536 + min 65536 (one.length - p * 65536)) * width ≤ q * 65536 * width =
      mul-le-mul_right width (omega (arith, less)) in
      omega (arith, length-take {A = ℕ}, most)

module _ (plan : MediaPlan) (is : IsMediaPlan plan) where
  -- each run can become a medium
  pub medium_run : (i : ℕ) (run : Run) → slice_get plan.runs i ≡ Some run → IsMediumRun plan.sounds plan.homes run
  medium_run i run there = holds_there (IsMediumRun plan.sounds plan.homes) plan.runs i run is.media there

  -- the medium of each number is that of its run
  pub whole_there : (sources : Files) (i n : ℕ) (run : Run) → n ≡ 1 + i → slice_get plan.runs i ≡ Some run
      → whole_output plan sources (media_name n) ≡ medium_by plan.sounds plan.homes sources run
  whole_there sources i n run next there = medium_whole plan sources n
      ∙ medium_found plan.sounds plan.homes sources 1 n plan.runs i run next (omega (arith, is.few)) there

  -- the first piece of a run is that of a job
  pub first_job : (i : ℕ) (run : Run) → slice_get plan.runs i ≡ Some run
      → (jobs_before plan.runs i + 0 < job_count plan.runs)
      × (job_of plan.runs (jobs_before plan.runs i + 0) ≡ piece_from i run 0)
  first_job i run there =
      let some = (medium_run i run there).addressed.of_file.some in
      piece_job plan.runs i run 0 there (omega (arith, some))

  -- each job copies a piece of a run
  pub job_is_piece : (k : ℕ) → k < job_count plan.runs → IsPieceOf plan.sounds plan.runs (job_of plan.runs k)
  job_is_piece = by_piece plan.runs (λ k piece. IsPieceOf plan.sounds plan.runs piece) (λ i run p there below.
      let medium = medium_run i run there in record {
        run = run;
        there = there;
        of_file = medium.addressed.of_file;
        inside = omega (arith, below);
        told = omega (arith, medium.fits);
      })

  -- media of one name are of one run
  pub same_place : (i j : ℕ) → i < length plan.runs → j < length plan.runs
      → media_name (suc i) ≡ media_name (suc j) → i ≡ j
  same_place i j inside within same = grind (arith, is.few, inside, within, same, media_name-injective (suc i) (suc j))

  -- two pieces of one medium are of one run
  pub are_apart : (sources : Files) → AreApart (jobs_over (work_of plan) sources)
  are_apart sources j k first second =
      by_piece plan.runs (λ j one. (k : ℕ) → k < job_count plan.runs → j ≢ k
      → media_name (suc one.run) ≡ media_name (suc (job_of plan.runs k).run)
      → Apart plan sources one (job_of plan.runs k)) (λ a one p there below.
      by_piece plan.runs (λ k other. jobs_before plan.runs a + p ≢ k → media_name (suc a) ≡ media_name (suc other.run)
      → Apart plan sources (piece_from a one p) other) (λ b two q there' below' other same.
      let first_in = slice_get_within plan.runs a one there in
      let places = same_place a b first_in (slice_get_within plan.runs b two there') same in
      let before = ends_before plan sources a one two p q in
      let after = ends_before plan sources a two one q p in
      grind (arith, other, places, before, after))) j first k second

  -- the medium of each run is whole
  pub held : (sources written : Files) → HoldJobs (job_plan plan) sources written → (i n : ℕ) (run : Run) → n ≡ 1 + i
      → slice_get plan.runs i ≡ Some run
      → written (media_name n) ≡ Some (medium_by plan.sounds plan.homes sources run)
  held sources written holds i n run next there =
      let job = first_job i run there in
      let same : n ≡ suc i = omega (arith, next) in
      rw same ((rw job.1 at (holds _ job.0)) ∙ ap Some (whole_there sources i (suc i) run (omega arith) there))

  module _ (sources : Files) where
    -- the frames of a run in its source
    abbrev pub samples_of : Run → List ℕ
    samples_of run = frames_in (sound_at plan.sounds run.file) (content sources (sound_at plan.sounds run.file).name)
        run.first run.length

    -- the sources hold all frames of each run
    abbrev pub AreFull : Type 0
    AreFull = (i : ℕ) (run : Run) → slice_get plan.runs i ≡ Some run
        → length (samples_of run) ≡ run.length * frame_length (sound_at plan.sounds run.file)

    -- each piece of them is as long as it says
    abbrev pub IsFullPiece : CopyJob → Type 0
    IsFullPiece piece = length (piece_bytes sources plan.sounds plan.runs piece)
        ≡ piece_length plan.sounds plan.runs piece

    -- then each is
    pub full_piece : AreFull → (i : ℕ) (run : Run) (p : ℕ) → slice_get plan.runs i ≡ Some run → p < pieces_in run
        → IsFullPiece (piece_from i run p)
    full_piece full i run p there below =
        let facts = sound_at plan.sounds run.file in
        rw there (length-part facts (content sources facts.name) run.first run.length (p * 65536) _ (full i run there)
        (piece_inside run p (frame_length facts) below))

    -- where each is, the sources hold all frames: the last piece of a run ends where the run does
    pub full_by_pieces : ((k : ℕ) → k < job_count plan.runs → IsFullPiece (job_of plan.runs k)) → AreFull
    full_by_pieces pieces i run there =
        let facts = sound_at plan.sounds run.file in
        let some = (medium_run i run there).addressed.of_file.some in
        let p : ℕ = (run.length - 1) / 65536 in
        let n : ℕ = min 65536 (run.length - p * 65536) in
        let last : p * 65536 + n ≡ run.length = omega (arith, some) in
        let job = piece_job plan.runs i run p there (omega (arith, some)) in
        rw last at (length-by_last (frame_length facts) facts.offset run.first (p * 65536) n
        (content sources facts.name) (omega (arith, some))
        (rw (job.1, there) at (pieces (jobs_before plan.runs i + p) job.0)))

    -- a piece's bytes stand at its place in the medium
    abbrev IsPartAt : CopyJob → Type 0
    IsPartAt piece = StandsIn (piece_place plan.sounds plan.runs piece)
        (piece_bytes sources plan.sounds plan.runs piece) (whole_output plan sources (media_name (suc piece.run)))

    piece_stands : AreFull → (i : ℕ) (run : Run) (p : ℕ) → slice_get plan.runs i ≡ Some run → p < pieces_in run
        → IsPartAt (piece_from i run p)
    unfolding file_of
    piece_stands full i run p there below =
        let facts = sound_at plan.sounds run.file in
        rw (whole_there sources i (suc i) run (omega arith) there, there)
        (part_stands facts (content sources facts.name) (header_of (run_info plan.sounds plan.homes run)) _ _ run.first
        run.length (p * 65536) _ (full i run there) (piece_inside run p (frame_length facts) below)
        (medium_run i run there).head)

    -- sources that are there hold what was planned of them
    pub sources_fit : AreThere sources plan.sounds → SourcesFit (job_plan plan) sources
    sources_fit all =
        let full : AreFull = λ i run there.
        let medium = medium_run i run there in
        (medium.medium _ (source_there plan.sounds sources run medium.addressed.of_file all).1).whole in
        record {
          sized = by_piece plan.runs (λ k piece. IsFullPiece piece) (full_piece full);
          parts = λ k below.
              let part = by_piece plan.runs (λ k piece. IsPartAt piece) (piece_stands full) k below in
              record { inside = part.inside; part = part.same };
        }

-- a plan that was made is for sources that are there
pub fits_planned : (project : ListProject) (binding : Binding) (handle : ℕ) (groups : List (List Piece))
    (plan : MediaPlan) → IsPlanned project binding handle groups plan → FitsSources plan
fits_planned project binding handle groups plan planned sources there =
    let is : IsMediaPlan plan = record {
      few = planned.few;
      media = rw (planned.sounds, planned.homes) planned.media;
    } in
    (sources_fit plan is sources there, are_apart plan is sources)
