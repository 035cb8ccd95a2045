-- A sample frame that was read is zero exactly if the sample frame of the file is.
use Rattle.std.proofs.Common.{◌≡◌, ℕ, zero, suc, ◌+◌, ◌-◌, ◌*◌, ◌/◌, ◌<◌, ◌≤◌, ◌^◌, List, ◌++◌, Some, length, take, drop}
use Rattle.std.proofs.Common.{length-take, length-drop, get_or, All, true, refl, sym, ap, ◌∙◌, arith}
use Rattle.std.specs.Prelude.{ℤ, pos, negsuc, neg_ℤ, ◌*ℤ◌, ◌↔◌, Option, nat_le, nat_lt, option_map}
use Rattle.std.proofs.Math.IntN.{negsuc-*ℤ-pos, pos-*ℤ-pos, zero-*ℤ}
use Rattle.std.proofs.Math.Nat.{add-mul, div-mul-le_self, mul-div_cancel, mul-le-mul_right}
use Rattle.std.proofs.lemmas.Int.{ints}
use Rattle.std.proofs.lemmas.Nat.{pow_pos}
use Rattle.std.proofs.lemmas.Bool.Decides.{nat_tests}
use Rattle.std.proofs.lemmas.List.{get_or-drop, get_or-take, get_or_append_left}
use Rattle.std.proofs.lemmas.List.Elements.{All-from_get_or}
use Rattle.sound_terms.specs.Depth.{bits_of}
use Rattle.sound_terms.specs.Sounds.{SoundFacts}
use Rattle.sound_terms.specs.Media.{frame_length}
use Rattle.sound_terms.specs.Waves.{sample_of}
use Rattle.sound_terms.specs.Mix.{full_scale}
use Rattle.work_terms.specs.Disk.{Files}
use Rattle.wavread.specs.Facts.{AreFrames}
use Rattle.silence.specs.declared.part.Part.{Part}
use Rattle.silence.specs.Holding.{AreOf, HasPart, Held, Holds}
use Rattle.silence.specs.Zero.{IsFirstSounding, IsFrameZero, IsZeroAt, LiesIn, sound_by}
use Rattle.silence.proofs.First.{counted_from}

-- a sample is zero exactly if it is zero at full scale
none_of : (z : ℤ) (n : ℕ) → 0 < n → z *ℤ pos n ≡ pos 0 → z ≡ pos 0
none_of (pos m) n some none = ap pos (no_factor m (same (sym (pos-*ℤ-pos m n) ∙ none))) where
  same : {a b : ℕ} → pos a ≡ pos b → a ≡ b
  same e = cc

  no_factor : (m : ℕ) → m * n ≡ 0 → m ≡ 0
  no_factor zero product = refl
  no_factor (suc m) product = absurd (omega arith)
none_of (negsuc m) n some none = absurd (below (suc m * n) (grind arith) (sym (negsuc-*ℤ-pos m n) ∙ none)) where
  below : (k : ℕ) → 0 < k → neg_ℤ (pos k) ≡ pos 0 → ⊥
  below k more none = grind (arith, ints)

-- offset of the sample of a sample frame and a channel
abbrev sample_place : SoundFacts → (frame channel : ℕ) → ℕ
sample_place facts frame channel = facts.offset + (frame * facts.channels + (channel - 1)) * (bits_of facts.depth / 8)

-- a sample of an opened file, within its channels and sample frames
heard : (files : Files) (facts : SoundFacts) (channel frame : ℕ) (file : List ℕ) → files facts.name ≡ Some file
    → frame < facts.frames → 1 ≤ channel → channel ≤ facts.channels → sound_by files facts channel frame
    ≡ full_scale (bits_of facts.depth) (sample_of (bits_of facts.depth) (drop (sample_place facts frame channel) file))
unfolding sound_by
heard files facts channel frame file stored inside first last =
    let frames : nat_lt frame facts.frames ≡ true = grind (arith, nat_tests) in
    let low : nat_le 1 channel ≡ true = grind (arith, nat_tests) in
    let high : nat_le channel facts.channels ≡ true = grind (arith, nat_tests) in
    rw (stored, frames, low, high) refl

-- number of interleaved sample frames
pub read_count : (frames : List ℤ) (count channels : ℕ) → length frames ≡ count * channels → 1 ≤ channels
    → length frames / channels ≡ count
read_count frames count channels whole some =
    ap (λ n. n / channels) whole ∙ mul-div_cancel count {n = channels} some

module _ (files : Files) (facts : SoundFacts) (part : Part) (file : List ℕ) (frames : List ℤ) (count : ℕ)
    (stored : files facts.name ≡ Some file)
    (are : AreFrames file (facts.offset + part.from * frame_length facts) (bits_of facts.depth) frames)
    (whole : length frames ≡ count * facts.channels) (inside : part.from + count ≤ facts.frames)
    (lies : LiesIn facts part) where
  place_told : (j i : ℕ) → facts.offset + part.from * frame_length facts + (i * facts.channels + (part.first - 1 + j)) *
      (bits_of facts.depth / 8)
      ≡ sample_place facts (part.from + i) (part.first + j)
  place_told j i =
      let first = lies.from_one in
      let channel : part.first - 1 + j ≡ part.first + j - 1 = omega arith in rw channel (omega arith)

  sample_told : (j i : ℕ) → j < part.width → i < count → sound_by files facts (part.first + j) (part.from + i)
      ≡ get_or frames (i * facts.channels + (part.first - 1 + j)) (pos 0) *ℤ pos (2 ^ (48 - bits_of facts.depth))
  sample_told j i wide below =
      let first = lies.from_one in
      let last = lies.channels in
      let row : (i + 1) * facts.channels ≤ count * facts.channels = grind arith in
      let k = i * facts.channels + (part.first - 1 + j) in
      let within : k < length frames = omega arith in
      heard files facts (part.first + j) (part.from + i) file stored (omega arith) (omega arith) (omega arith)
      ∙ sym (ap (full_scale (bits_of facts.depth)) (are k within
      ∙ ap (λ m. sample_of (bits_of facts.depth) (drop m file)) (place_told j i)))

  -- a sample frame read from the file is zero exactly if it is zero in the part
  pub read_zero : (i : ℕ) → i < count → IsFrameZero frames facts.channels part.first part.width i
      ↔ IsZeroAt (sound_by files facts) part.first part.width (part.from + i)
  read_zero i below = (to_sound, to_frame) where
    to_sound : IsFrameZero frames facts.channels part.first part.width i
        → IsZeroAt (sound_by files facts) part.first part.width (part.from + i)
    to_sound silent j wide =
        sample_told j i wide below ∙ ap (λ z. z *ℤ pos (2 ^ (48 - bits_of facts.depth))) (silent j wide)
        ∙ zero-*ℤ (pos (2 ^ (48 - bits_of facts.depth)))

    to_frame : IsZeroAt (sound_by files facts) part.first part.width (part.from + i)
        → IsFrameZero frames facts.channels part.first part.width i
    to_frame silent j wide =
        none_of _ (2 ^ (48 - bits_of facts.depth)) (pow_pos (48 - bits_of facts.depth))
        (sym (sample_told j i wide below) ∙ silent j wide)

-- sample frames that were read, followed by other samples
pub read_are : (files : Files) (facts : SoundFacts) (from count : ℕ) (file : List ℕ) (frames rest : List ℤ)
    → files facts.name ≡ Some file
    → AreFrames file (facts.offset + from * frame_length facts) (bits_of facts.depth) frames
    → length frames ≡ count * facts.channels → from + count ≤ facts.frames
    → AreOf (sound_by files facts) facts.channels from count (frames ++ rest)
read_are files facts from count file frames rest stored are whole inside i channel below first last =
    (to_sound, to_frame) where
      part : Part
      part = record { first = channel; width = 1; from = from; to = from + count }

      lies : LiesIn facts part
      lies = record {
        from_one = first;
        channels = omega (arith, last);
        in_order = omega arith;
        frames = inside;
      }

      zero : IsFrameZero frames facts.channels channel 1 i ↔ IsZeroAt (sound_by files facts) channel 1 (from + i)
      zero = read_zero files facts part file frames count stored are whole inside lies i below

      there : get_or (frames ++ rest) (i * facts.channels + (channel - 1)) (pos 0)
          ≡ get_or frames (i * facts.channels + (channel - 1)) (pos 0)
      there =
          let row : (i + 1) * facts.channels ≤ count * facts.channels = mul-le-mul_right facts.channels (omega (arith, below)) in
          get_or_append_left frames rest (pos 0) (i * facts.channels + (channel - 1)) (omega (arith, whole, last, first))

      to_sound : get_or (frames ++ rest) (i * facts.channels + (channel - 1)) (pos 0) ≡ pos 0
          → sound_by files facts channel (from + i) ≡ pos 0
      to_sound silent =
          let same : channel ≡ channel + 0 = omega arith in
          ap (λ c. sound_by files facts c (from + i)) same
          ∙ zero.0 (λ j wide.
          let place : i * facts.channels + (channel - 1 + j) ≡ i * facts.channels + (channel - 1) = omega (arith, wide) in
          ap (λ k. get_or frames k (pos 0)) place ∙ sym there ∙ silent) 0 (omega arith)

      to_frame : sound_by files facts channel (from + i) ≡ pos 0
          → get_or (frames ++ rest) (i * facts.channels + (channel - 1)) (pos 0) ≡ pos 0
      to_frame silent =
          let place : i * facts.channels + (channel - 1) ≡ i * facts.channels + (channel - 1 + 0) = omega arith in
          there
          ∙ ap (λ k. get_or frames k (pos 0)) place
          ∙ zero.1 (λ j wide.
          let same : channel + j ≡ channel = omega (arith, wide) in
          ap (λ c. sound_by files facts c (from + i)) same ∙ silent) 0 (omega arith)

-- samples of a part in the window
abbrev pub held_frames : Held → Part → List ℤ
held_frames held part =
    take ((part.to - held.from) * held.channels - (part.from - held.from) * held.channels)
    (drop ((part.from - held.from) * held.channels) held.samples)

module _ (held : Held) (part : Part) (has : HasPart held part)
    (room : held.count * held.channels ≤ length held.samples) where
  whole_held : length (held_frames held part) ≡ (part.to - part.from) * held.channels
  whole_held =
      let from = has.from in
      let order = has.in_order in
      let to = has.to in
      let rows : (part.to - held.from) * held.channels ≤ held.count * held.channels =
      mul-le-mul_right held.channels (omega arith) in
      let apart : part.to - held.from ≡ (part.from - held.from) + (part.to - part.from) = omega arith in
      let parts : (part.to - held.from) * held.channels
      ≡ (part.from - held.from) * held.channels + (part.to - part.from) * held.channels =
      ap (λ n. n * held.channels) apart ∙ add-mul (part.from - held.from) (part.to - part.from) held.channels in
      omega (arith, length-take {A = ℤ}, length-drop {A = ℤ})

  -- number of sample frames of the part
  pub count_held : 1 ≤ held.channels → length (held_frames held part) / held.channels ≡ part.to - part.from
  count_held some = read_count (held_frames held part) (part.to - part.from) held.channels whole_held some

-- the part is zero in a sample frame exactly if its sound is
module _ (sound : ℕ → ℕ → ℤ) (held : Held) (part : Part) (holds : Holds sound held) (has : HasPart held part) where
  -- a sample of the part is in the window
  held_there : (i j : ℕ) → i < part.to - part.from → j < part.width
      → get_or (held_frames held part) (i * held.channels + (part.first - 1 + j)) (pos 0)
      ≡ get_or held.samples ((part.from - held.from + i) * held.channels + (part.first + j - 1)) (pos 0)
  held_there i j below wide =
      let first = has.from_one in
      let last = has.channels in
      let from = has.from in
      let row : (part.from - held.from + i + 1) * held.channels ≤ (part.to - held.from) * held.channels =
      mul-le-mul_right held.channels (omega arith) in
      let place : (part.from - held.from) * held.channels + (i * held.channels + (part.first - 1 + j))
      ≡ (part.from - held.from + i) * held.channels + (part.first + j - 1) = omega arith in
      get_or-take ((part.to - held.from) * held.channels - (part.from - held.from) * held.channels)
      (drop ((part.from - held.from) * held.channels) held.samples) (i * held.channels + (part.first - 1 + j)) (pos 0)
      (omega arith)
      ∙ get_or-drop ((part.from - held.from) * held.channels) held.samples (i * held.channels + (part.first - 1 + j))
      (pos 0)
      ∙ ap (λ k. get_or held.samples k (pos 0)) place

  held_zero : (i : ℕ) → i < part.to - part.from
      → IsFrameZero (held_frames held part) held.channels part.first part.width i
      ↔ IsZeroAt sound part.first part.width (part.from + i)
  held_zero i below = (to_sound, to_frame) where
    same : (j : ℕ) → j < part.width
        → get_or held.samples ((part.from - held.from + i) * held.channels + (part.first + j - 1)) (pos 0) ≡ pos 0
        ↔ sound (part.first + j) (held.from + (part.from - held.from + i)) ≡ pos 0
    same j wide =
        let first = has.from_one in
        let last = has.channels in
        let from = has.from in
        let to = has.to in
        holds (part.from - held.from + i) (part.first + j) (omega arith) (omega arith) (omega arith)

    there : held.from + (part.from - held.from + i) ≡ part.from + i
    there = let from = has.from in omega arith

    to_sound : IsFrameZero (held_frames held part) held.channels part.first part.width i
        → IsZeroAt sound part.first part.width (part.from + i)
    to_sound silent j wide =
        ap (sound (part.first + j)) (sym there) ∙ (same j wide).0 (sym (held_there i j below wide) ∙ silent j wide)

    to_frame : IsZeroAt sound part.first part.width (part.from + i)
        → IsFrameZero (held_frames held part) held.channels part.first part.width i
    to_frame silent j wide =
        held_there i j below wide ∙ (same j wide).1 (ap (sound (part.first + j)) there ∙ silent j wide)

  -- the first sample frame that is not zero, numbered from the start of the part
  pub first_held : held.count * held.channels ≤ length held.samples → 1 ≤ held.channels → (found : Option ℕ)
      → IsFirstSounding (IsFrameZero (held_frames held part) held.channels part.first part.width) 0
      (length (held_frames held part) / held.channels) found
      → IsFirstSounding (IsZeroAt sound part.first part.width) part.from part.to (option_map (λ i. part.from + i) found)
  first_held room some found first =
      let ends : part.from + (part.to - part.from) ≡ part.to = let order = has.in_order in omega arith in
      rw (← ends) (counted_from (IsFrameZero (held_frames held part) held.channels part.first part.width)
      (IsZeroAt sound part.first part.width) part.from (part.to - part.from) held_zero found
      (rw (count_held held part has room some) at first))

-- these channels of one of the sample frames
abbrev pub channels_of : List ℤ → (channels first width i : ℕ) → List ℤ
channels_of frames channels first width i =
    take (i * channels + (first - 1) + width - (i * channels + (first - 1))) (drop (i * channels + (first - 1)) frames)

module _ (frames : List ℤ) (channels first width i : ℕ) where
  there : (j : ℕ) → j < width → get_or (channels_of frames channels first width i) j (pos 0)
      ≡ get_or frames (i * channels + (first - 1 + j)) (pos 0)
  there j less =
      get_or-take (i * channels + (first - 1) + width - (i * channels + (first - 1)))
      (drop (i * channels + (first - 1)) frames) j (pos 0)
      (omega arith)
      ∙ get_or-drop (i * channels + (first - 1)) frames j (pos 0) ∙ ap (λ k. get_or frames k (pos 0)) (omega arith)

  pub frame_zero : first + width ≤ channels + 1 → 1 ≤ first → i < length frames / channels
      → All (λ z. z ≡ pos 0) (channels_of frames channels first width i)
      ↔ ((j : ℕ) → j < width → get_or frames (i * channels + (first - 1 + j)) (pos 0) ≡ pos 0)
  frame_zero last from below = (to_each, to_all) where
    inside : i * channels + (first - 1) + width ≤ length frames
    inside =
        let whole = div-mul-le_self (length frames) channels in
        let row : (i + 1) * channels ≤ length frames / channels * channels = grind arith in omega arith

    to_each : All (λ z. z ≡ pos 0) (channels_of frames channels first width i)
        → (j : ℕ) → j < width → get_or frames (i * channels + (first - 1 + j)) (pos 0) ≡ pos 0
    to_each all j less =
        sym (there j less) ∙ all j (pos 0) (omega (arith, inside, length-take {A = ℤ}, length-drop {A = ℤ}))

    to_all : ((j : ℕ) → j < width → get_or frames (i * channels + (first - 1 + j)) (pos 0) ≡ pos 0)
        → All (λ z. z ≡ pos 0) (channels_of frames channels first width i)
    to_all each = All-from_get_or (λ z. z ≡ pos 0) (channels_of frames channels first width i) (pos 0)
        (λ j short. let less : j < width = omega (arith, length-take {A = ℤ}) in there j less ∙ each j less)
