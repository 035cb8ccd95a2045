-- The jobs of a consolidation: each copies a piece of a run to its place in the run's medium.
use Rattle.std.specs.Prelude.{ℕ, suc, cond, bytes_eq, List, [], ◌∷◌}
use Rattle.sound_terms.specs.declared.piece.Home.{Home}
use Rattle.sound_terms.specs.declared.piece.Run.{Run}
use Rattle.sound_terms.specs.Homes.{base_by}
use Rattle.sound_terms.specs.Media.{medium_of, sound_at}
use Rattle.sound_terms.specs.Sounds.{SoundFacts}
use Rattle.work_terms.specs.Disk.{Files}
use Rattle.list_terms.specs.Renewed.{media_name}
use Rattle.job_terms.specs.Workers.{JobsBy}
use Rattle.mediacopy.specs.Pieces.{content, piece_bytes, piece_length, piece_place}
use Rattle.consolidation.specs.Pieces.{job_count, job_of}
use Rattle.consolidation.specs.Planned.{MediaPlan}

-- each piece, at its place in the medium of its run
abbrev pub work_of : MediaPlan → JobsBy
work_of plan = record {
  count = job_count plan.runs;
  name = λ k. media_name (suc (job_of plan.runs k).run);
  at = λ k. piece_place plan.sounds plan.runs (job_of plan.runs k);
  size = λ k. piece_length plan.sounds plan.runs (job_of plan.runs k);
  bytes = λ sources k. piece_bytes sources plan.sounds plan.runs (job_of plan.runs k);
}

-- the medium of a run over these sources
abbrev pub medium_by : List SoundFacts → List Home → Files → Run → List ℕ
medium_by sounds homes sources run =
    medium_of (sound_at sounds run.file) (content sources (sound_at sounds run.file).name) (base_by homes run.file) run

-- the medium of this name, where the first of these runs has this number
abbrev pub whole_from : List SoundFacts → List Home → Files → (number : ℕ) → List Run → List ℕ → List ℕ
whole_from sounds homes sources number [] name = []
whole_from sounds homes sources number (run ∷ runs) name = cond (bytes_eq (media_name number) name)
    (medium_by sounds homes sources run) (whole_from sounds homes sources (suc number) runs name)

-- the whole medium of each name over these sources
abbrev pub whole_of : MediaPlan → Files → List ℕ → List ℕ
whole_of plan sources name = whole_from plan.sounds plan.homes sources 1 plan.runs name
