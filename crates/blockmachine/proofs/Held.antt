-- Samples of a file that the buffer holds as stored.
use Rattle.std.proofs.Common.{◌≡◌, ℕ, zero, suc, ◌+◌, ◌*◌, ◌/◌, ◌≤◌, List, [], ◌∷◌, Some, length, take, drop, get_or, refl, sym, ap, ◌∙◌, subst, arith}
use Rattle.std.specs.Prelude.{pos, slice_get}
use Rattle.std.proofs.Math.Nat.{mul-le-mul_left}
use Rattle.std.proofs.lemmas.Option.{same_Some, slice_get_read, slice_get_within}
use Rattle.sound_terms.specs.declared.block.Stretch.{Stretch}
use Rattle.sound_terms.specs.Depth.{bits_of}
use Rattle.sound_terms.specs.Laws.{bits_bounded}
use Rattle.sound_terms.specs.Media.{LiesInFile, frame_length}
use Rattle.sound_terms.specs.Blocks.{IsFull}
use Rattle.sound_terms.specs.Sounds.{SoundFacts, reading_by}
use Rattle.work_terms.specs.Disk.{Files, IsRange}
use Rattle.pcm.specs.Samples.{samples_in}
use Rattle.pcm.specs.Laws.{AreBytes, all_fit, get_or-samples_in_file, length-samples_in}
use Rattle.blockmachine.specs.Playing.{Plays}
use Rattle.blockmachine.proofs.Full.{full_frames}
use Rattle.blockmachine.proofs.Played.{plays_sound}

-- the sound at the index of the stretch's file is the open file
pub opened : (sounds : List SoundFacts) (part : Stretch)
    → LiesInFile sounds part.file part.first part.width part.frame part.length → (sound : SoundFacts)
    → sound ≡ get_or sounds part.file sound → slice_get sounds part.file ≡ Some sound
opened sounds part lies sound is =
    slice_get_read sounds (length sounds) part.file sound refl (slice_get_within sounds part.file lies.facts lies.there) is

-- the stretch is within this file
pub lies_in : (sounds : List SoundFacts) (part : Stretch)
    → LiesInFile sounds part.file part.first part.width part.frame part.length → (sound : SoundFacts)
    → slice_get sounds part.file ≡ Some sound
    → (part.first + part.width ≤ sound.channels + 1) × (part.frame + part.length ≤ sound.frames)
lies_in sounds part lies sound found =
    subst (λ (f : SoundFacts). (part.first + part.width ≤ f.channels + 1) × (part.frame + part.length ≤ f.frames))
    (same_Some lies.facts sound (sym lies.there ∙ found)) (lies.channels, lies.frames)

-- if n frames fit as samples, they fit as bytes, at up to four bytes per sample
pub room_for : (facts : SoundFacts) (n samples bytes : ℕ) → n * facts.channels ≤ samples → samples * 4 ≤ bytes
    → n * frame_length facts ≤ bytes
room_for facts n samples bytes few room =
    let narrow : bits_of facts.depth / 8 ≤ 4 = omega (arith, bits_bounded facts.depth) in
    let wide = mul-le-mul_left (n * facts.channels) narrow in
    omega (arith, few, wide, room)

pub bytes_of : (facts : SoundFacts) (n channels width : ℕ) → channels ≡ facts.channels
    → width ≡ bits_of facts.depth / 8 → n * channels * width ≡ n * frame_length facts
bytes_of facts n channels width alike wide =
    ap (λ m. n * m * width) alike ∙ ap (λ w. n * facts.channels * w) wide ∙ omega arith

-- the first bytes of a list of bytes
pub small_front : (n : ℕ) (bytes : List ℕ) → AreBytes bytes → AreBytes (take n bytes)
small_front zero bytes small place = omega arith
small_front (suc n) [] small place = omega arith
small_front (suc n) (byte ∷ bytes) small zero = small 0
small_front (suc n) (byte ∷ bytes) small (suc place) = small_front n bytes (λ k. small (suc k)) place

-- the bytes are the stored samples of a stretch
pub record AreRead (files : Files) (sounds : List SoundFacts) (facts : SoundFacts) (part : Stretch) (bytes : List ℕ)
    : Type 0 where
  pub there : slice_get sounds part.file ≡ Some facts
  pub range : IsRange (files facts.name) (facts.offset + part.frame * frame_length facts) bytes
  pub whole : length bytes ≡ part.length * facts.channels * (bits_of facts.depth / 8)
  pub first : 1 ≤ part.first
  pub last : part.first + part.width ≤ facts.channels + 1
  pub inside : part.frame + part.length ≤ facts.frames

module _ (files : Files) (sounds : List SoundFacts) (facts : SoundFacts) (part : Stretch) (bytes : List ℕ)
    (are : AreRead files sounds facts part bytes)
  where
    -- the samples in the bytes are the ones that the stretch plays
    pub held_plays : Plays (reading_by files sounds) part facts.channels (bits_of facts.depth)
        (samples_in (bits_of facts.depth) (part.length * facts.channels) bytes)
    held_plays =
        let bits = bits_of facts.depth in
        let n = part.length * facts.channels in
        let place = facts.offset + part.frame * frame_length facts in
        let same : bytes ≡ take (n * (bits / 8)) (drop place are.range.file) =
        are.range.same ∙ ap (λ m. take m (drop place are.range.file)) are.whole in
        plays_sound files sounds facts part are.range.file (samples_in bits n bytes) are.there are.range.there
        (λ k below. get_or-samples_in_file bits n k place are.range.file bytes (pos 0) same
        (omega (arith, below, length-samples_in bits n bytes)))
        (length-samples_in bits n bytes) are.first are.last are.inside

    pub held_full : AreBytes bytes → IsFull (reading_by files sounds) part
    held_full small =
        let bits = bits_of facts.depth in
        let n = part.length * facts.channels in
        full_frames (reading_by files sounds) part facts.channels facts.depth (samples_in bits n bytes)
        (all_fit facts.depth n bytes small) held_plays (length-samples_in bits n bytes) are.first are.last
