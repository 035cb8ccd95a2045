-- The parts of a medium, hashed one after the other.
use Rattle.std.proofs.Common.{◌≡◌, ◌∙◌, ◌+◌, ◌*◌, ◌++◌, ◌%◌, ◌<◌, ◌≤◌, ◌⊎◌, inl, inr, [], ◌∷◌, ℕ, List, length, take, drop, replicate, ap, arith, subst, sym}
use Rattle.std.proofs.lemmas.Bool.{cases_lt}
use Rattle.std.proofs.Math.Seq.{take-add}
use Rattle.std.proofs.lemmas.List.{append-nil, append_assoc, drop-drop, length-append}
use Rattle.sha2.specs.declared.Sha256.{Sha256}
use Rattle.sha2.specs.Hashers.{Holds256}
use Rattle.sound_terms.specs.Media.{frame_length, frames_in}
use Rattle.sound_terms.specs.Sounds.{SoundFacts}
use Rattle.sound_terms.specs.Waves.{SoundInfo, file_of, header_of, zeros}
use Rattle.work_terms.specs.Disk.{Files}
use Rattle.mediacopy.specs.Pieces.{content}
use Rattle.digests.specs.Media.{IsHashed}

-- consecutive sample frames of a file
in_turn : (bytes : List ℕ) (place width from n m : ℕ)
    → take ((n + m) * width) (drop (place + from * width) bytes)
    ≡ take (n * width) (drop (place + from * width) bytes) ++ take (m * width) (drop (place + (from + n) * width) bytes)
in_turn bytes place width from n m =
    let wide : (n + m) * width ≡ n * width + m * width = omega arith in
    let behind : (place + from * width) + n * width ≡ place + (from + n) * width = omega arith in
    ap (λ (k : ℕ). take k (drop (place + from * width) bytes)) wide
    ∙ take-add (n * width) (m * width) (drop (place + from * width) bytes)
    ∙ ap (λ (rest : List ℕ). take (n * width) (drop (place + from * width) bytes) ++ take (m * width) rest)
    (drop-drop (n * width) (place + from * width) bytes ∙ ap (λ (k : ℕ). drop k bytes) behind)

-- an empty run of sample frames
no_frames : (facts : SoundFacts) (bytes : List ℕ) (from : ℕ) → frames_in facts bytes from 0 ≡ []
no_frames facts bytes from =
    let none : 0 * frame_length facts ≡ 0 = omega arith in
    ap (λ (n : ℕ). take n (drop (facts.offset + from * frame_length facts) bytes)) none

module _ (facts : SoundFacts) (sources : Files) (from : ℕ) (before : List ℕ) where
  pub nothing_hashed : (hasher : Sha256) → Holds256 hasher before → IsHashed facts sources from 0 before hasher
  nothing_hashed hasher held = record {
    held = subst (Holds256 hasher) (sym (ap (λ (bytes : List ℕ). before ++ bytes)
        (no_frames facts (content sources facts.name) from) ∙ append-nil before)) held;
    whole = ap length (no_frames facts (content sources facts.name) from) ∙ omega arith;
  }

  pub more_hashed : (n m : ℕ) (old new : Sha256) → IsHashed facts sources from n before old
      → ((message : List ℕ) → Holds256 old message → IsHashed facts sources (from + n) m message new)
      → IsHashed facts sources from (n + m) before new
  more_hashed n m old new first step =
      let bytes = content sources facts.name in
      let more = step (before ++ frames_in facts bytes from n) first.held in
      let whole : frames_in facts bytes from (n + m)
      ≡ frames_in facts bytes from n ++ frames_in facts bytes (from + n) m =
      in_turn bytes facts.offset (frame_length facts) from n m in
      record {
        held = subst (Holds256 new)
            (append_assoc before (frames_in facts bytes from n) (frames_in facts bytes (from + n) m)
            ∙ ap (λ (rest : List ℕ). before ++ rest) (sym whole)) more.held;
        whole = ap length whole ∙ length-append (frames_in facts bytes from n) (frames_in facts bytes (from + n) m)
            ∙ omega (arith, first.whole, more.whole);
      }

-- the padding after data of odd length
pub pad_is : (n : ℕ) → n < 2 → take {A = ℕ} n (0 ∷ []) ≡ zeros n
unfolding zeros
pad_is n few = by_size (cases_lt n 1) where
  by_size : (n < 1) ⊎ (1 ≤ n) → take {A = ℕ} n (0 ∷ []) ≡ replicate n 0
  by_size (inl none) =
      let is : n ≡ 0 = omega (arith, none) in
      ap (λ (k : ℕ). take {A = ℕ} k (0 ∷ [])) is ∙ sym (ap (λ (k : ℕ). replicate k 0) is)
  by_size (inr one) =
      let is : n ≡ 1 = omega (arith, few, one) in
      ap (λ (k : ℕ). take {A = ℕ} k (0 ∷ [])) is ∙ sym (ap (λ (k : ℕ). replicate k 0) is)

-- header, samples and padding make up the file
pub whole_file : (info : SoundInfo) (samples pad : List ℕ) (size : ℕ) → length samples ≡ size → pad ≡ zeros (size % 2)
    → (header_of info ++ samples) ++ pad ≡ file_of info samples
unfolding file_of
whole_file info samples pad size long is =
    append_assoc (header_of info) samples pad
    ∙ ap (λ (rest : List ℕ). header_of info ++ (samples ++ rest)) (is ∙ ap (λ (n : ℕ). zeros (n % 2)) (sym long))
