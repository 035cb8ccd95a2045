-- The pieces of runs, which are copied one by one: each of 65,536 frames, the last piece of a run what is left.
use Rattle.std.specs.Prelude.{ℕ, zero, suc, ◌+◌, ◌-◌, ◌*◌, ◌/◌, nat_lt, cond, min, List, [], ◌∷◌}
use Rattle.sound_terms.specs.declared.piece.Run.{Run}
use Rattle.mediacopy.specs.declared.piece.CopyJob.{CopyJob}
use Rattle.mediacopy.specs.Pieces.{no_run}

-- how many pieces a run has
abbrev pub pieces_in : Run → ℕ
pieces_in run = (run.length + 65535) / 65536

abbrev pub job_count : List Run → ℕ
job_count [] = 0
job_count (run ∷ runs) = pieces_in run + job_count runs

-- how many jobs the runs before this place have
abbrev pub jobs_before : List Run → ℕ → ℕ
jobs_before [] place = 0
jobs_before (run ∷ runs) zero = 0
jobs_before (run ∷ runs) (suc place) = pieces_in run + jobs_before runs place

-- the piece of this number, counted from 0, of the run at this place
abbrev pub piece_from : (place : ℕ) → Run → ℕ → CopyJob
piece_from place run k =
    record { run = place; from = k * 65536; frames = min 65536 (run.length - k * 65536) }

-- the job of this number, run by run, where the first of these runs has this place
abbrev pub job_from : (place : ℕ) → List Run → ℕ → CopyJob
job_from place [] k = piece_from place no_run k
job_from place (run ∷ runs) k =
    cond (nat_lt k (pieces_in run)) (piece_from place run k) (job_from (suc place) runs (k - pieces_in run))

abbrev pub job_of : List Run → ℕ → CopyJob
job_of runs k = job_from 0 runs k
