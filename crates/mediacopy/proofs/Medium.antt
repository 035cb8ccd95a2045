-- The medium of a run of a complete source.
use Rattle.std.proofs.Common.{◌≡◌, ℕ, ◌+◌, ◌-◌, ◌*◌, ◌/◌, ◌<◌, ◌≤◌, List, length, take, drop, Ok, sym, ap, ◌∙◌, arith}
use Rattle.std.specs.Prelude.{pos}
use Rattle.std.proofs.lemmas.List.{length-drop, length-take-le}
use Rattle.std.proofs.Math.Nat.{mul-le-mul_right}
use Rattle.pcm.specs.Laws.{get_or-samples_in_frames}
use Rattle.sound_terms.specs.Depth.{bits_of}
use Rattle.sound_terms.specs.declared.piece.Run.{Run}
use Rattle.sound_terms.specs.Media.{frame_length, frames_in, medium_info}
use Rattle.sound_terms.specs.Sounds.{SoundFacts}
use Rattle.sound_terms.specs.SoundFiles.{sound_of}
use Rattle.sound_terms.specs.Waves.{data_place, data_size, file_of, sample_of}
use Rattle.wavwrite.specs.Info.{facts_of}
use Rattle.mediacopy.specs.Copied.{HasFrames, HasSamplesOf, IsMedium}

-- A range of sample frames ends within the file.
frames_end : (width place first count frames end : ℕ) → first + count ≤ frames → place + frames * width ≤ end
    → place + first * width + count * width ≤ end
frames_end width place first count frames end inside whole =
    let fewer : (first + count) * width ≤ frames * width = mul-le-mul_right width inside in
    omega (arith, fewer, whole)

module _ (facts : SoundFacts) (source : List ℕ) (run : Run) where
  abbrev at : ℕ
  at = facts.offset + run.first * frame_length facts

  whole : run.first + run.length ≤ facts.frames → HasFrames facts source
      → length (frames_in facts source run.first run.length) ≡ run.length * frame_length facts
  whole inside has =
      let end = frames_end (frame_length facts) facts.offset run.first run.length facts.frames (length source) inside
      has in
      let left : run.length * frame_length facts ≤ length (drop at source) =
      omega (arith, end, length-drop at source) in
      length-take-le (run.length * frame_length facts) (drop at source) left

  -- The samples of the run, in a file that has them at this offset.
  same_samples : (file : List ℕ) (place : ℕ)
      → frames_in facts source run.first run.length ≡ take (run.length * frame_length facts) (drop place file)
      → HasSamplesOf facts source run file place
  same_samples file place stands = λ i channel below first last.
      let width : ℕ = bits_of facts.depth / 8 in
      let n : ℕ = run.length * facts.channels in
      let bytes = frames_in facts source run.first run.length in
      let counted : run.length * frame_length facts ≡ n * width = omega arith in
      let inside : i * facts.channels + (channel - 1) < n = grind (arith, below, first, last) in
      let here = get_or-samples_in_frames (bits_of facts.depth) n i channel facts.channels place file bytes (pos 0)
      (stands ∙ ap (λ (k : ℕ). take k (drop place file)) counted) inside in
      let there = get_or-samples_in_frames (bits_of facts.depth) n i channel facts.channels at source bytes (pos 0)
      (ap (λ (k : ℕ). take k (drop at source)) counted) inside in
      sym here ∙ there ∙ ap (λ (k : ℕ). sample_of (bits_of facts.depth) (drop k source)) (omega arith)

  pub is_medium : (base : ℕ)
      → ((name «data» : List ℕ) → length «data» ≡ data_size (medium_info facts base run)
      → sound_of name (file_of (medium_info facts base run) «data»)
      ≡ Ok (facts_of name (medium_info facts base run)))
      → ((«data» : List ℕ) → length «data» ≡ data_size (medium_info facts base run)
      → take (data_size (medium_info facts base run)) (drop (data_place (medium_info facts base run))
      (file_of (medium_info facts base run) «data»)) ≡ «data»)
      → run.first + run.length ≤ facts.frames → HasFrames facts source → IsMedium facts source base run
  is_medium base reads stands inside has =
      let frames = frames_in facts source run.first run.length in
      let long = whole inside has in
      record {
        whole = long;
        reads_back = λ name. reads name frames long;
        samples = same_samples (file_of (medium_info facts base run) frames) (data_place (medium_info facts base run))
            (sym (stands frames long));
      }
