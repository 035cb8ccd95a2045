-- A piece in its source and in its medium, as the code reads it.
use Rattle.std.proofs.Common.{◌≡◌, ◌∙◌, ℕ, ◌+◌, ◌*◌, ◌^◌, ◌<◌, ◌≤◌, List, [], length, take, drop, Option, ap, arith, get_or, sym}
use Rattle.std.specs.Prelude.{unwrap_or}
use Rattle.std.proofs.lemmas.Option.{get_or_from_slice_get}
use Rattle.std.proofs.Math.Nat.{mul-le-mul_right}
use Rattle.sound_terms.specs.declared.piece.Run.{Run}
use Rattle.sound_terms.specs.Media.{frame_length, no_sound, sound_at}
use Rattle.sound_terms.specs.Sounds.{SoundFacts}
use Rattle.work_terms.specs.Disk.{IsRange}
use Rattle.mediacopy.specs.declared.piece.CopyJob.{CopyJob}
use Rattle.mediacopy.specs.Pieces.{IsPieceOf, no_run, piece_place, run_at, source_of}

module _ (sounds : List SoundFacts) (runs : List Run) (job : CopyJob) (is : IsPieceOf sounds runs job) where
  own : run_at runs job.run ≡ is.run
  own = ap (λ o. unwrap_or o no_run) is.there

  -- The run and the source of a piece.
  pub run_read : (d : Run) → get_or runs job.run d ≡ run_at runs job.run
  run_read d = get_or_from_slice_get runs job.run is.run d is.there ∙ sym own

  pub source_read : (d : Run) (e : SoundFacts) → get_or sounds (get_or runs job.run d).file e ≡ source_of sounds runs job
  source_read d e =
      let there = get_or_from_slice_get sounds is.run.file is.of_file.facts e is.of_file.there in
      let known : sound_at sounds is.run.file ≡ is.of_file.facts = ap (λ o. unwrap_or o no_sound) is.of_file.there in
      ap (λ (run : Run). get_or sounds run.file e) (run_read d ∙ own) ∙ there ∙ sym known
      ∙ ap (λ (run : Run). sound_at sounds run.file) (sym own)

  -- A piece is within its source.
  pub inside_source : (run_at runs job.run).first + job.from + job.frames ≤ (source_of sounds runs job).frames
  inside_source =
      let known : sound_at sounds is.run.file ≡ is.of_file.facts = ap (λ o. unwrap_or o no_sound) is.of_file.there in
      rw (own, known) (omega (arith, is.of_file.inside, is.inside))

  -- The offset of a piece in its medium fits in 64 bits.
  pub place_told : piece_place sounds runs job < 2 ^ 64
  place_told =
      let width = frame_length (sound_at sounds is.run.file) in
      let before : job.from * width ≤ is.run.length * width =
      mul-le-mul_right width (omega (arith, is.inside)) in
      rw own (omega (arith, before, is.told))

-- Reading a range yields its bytes.
pub range_bytes : (stored : Option (List ℕ)) (at n : ℕ) (bytes : List ℕ) → IsRange stored at bytes → length bytes ≡ n
    → bytes ≡ take n (drop at (unwrap_or stored []))
range_bytes stored at n bytes is counted =
    is.same ∙ ap (λ (k : ℕ). take k (drop at is.file)) counted
    ∙ ap (λ (file : List ℕ). take n (drop at file)) (sym (ap (λ o. unwrap_or o []) is.there))
