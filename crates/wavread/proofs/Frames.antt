-- Samples that were read are the samples of the file.
use Rattle.std.proofs.Common.{◌≡◌, ℕ, ◌+◌, ◌-◌, ◌*◌, ◌/◌, ◌<◌, ◌≤◌, min, Bool, true, false, nat_lt, List, ◌++◌, Option, Some, length, take, drop, get_or, refl, sym, ap, ◌∙◌, arith, length-append, length-take, length-drop}
use Rattle.std.proofs.Math.Nat.{div-add-mod', mul-le-mul_right}
use Rattle.std.proofs.lemmas.Bool.Decides.{nat_tests}
use Rattle.std.proofs.lemmas.List.{get_or_append_left, get_or-append_right, get_or-take}
use borrow.Rule.Slice.PartMut.{post_of, put_mid}
use Rattle.std.specs.Prelude.{ℤ, pos}
use Rattle.facts.specs.Tests.{same_some}
use Rattle.sound_terms.specs.Waves.{sample_at, sample_of}
use Rattle.work_terms.specs.Disk.{IsRange}
use Rattle.pcm.specs.Samples.{samples_in}
use Rattle.pcm.specs.Laws.{length-samples_in, get_or-samples_in_file}
use Rattle.wavread.specs.Facts.{AreFrames}

-- the sample frames of a block fit its buffer
pub fits_block : (count channels left : ℕ) → count ≡ min (1024 / channels) left → count * channels ≤ 1024
fits_block count channels left most =
    let less : count ≤ 1024 / channels = omega arith in
    let rows : count * channels ≤ 1024 / channels * channels = mul-le-mul_right channels less in
    let whole = div-add-mod' 1024 channels in
    omega (arith, rows, whole)

-- one more part after the samples already filled
pub filled_more : (done count k : ℕ) (old new : List ℤ) (told : ℕ → ℤ) → done + count ≤ length old → length new ≡ count
    → ((i : ℕ) → i < done → get_or old i (pos 0) ≡ told i)
    → ((j : ℕ) → j < count → get_or new j (pos 0) ≡ told (done + j))
    → (i : ℕ) → i < done + count → get_or (put_mid done k old new) i (pos 0) ≡ told i
filled_more done count k old new told inside whole before after i below = by_place (nat_lt i done) refl where
  by_place : (b : Bool) → nat_lt i done ≡ b → get_or (put_mid done k old new) i (pos 0) ≡ told i
  by_place true is_before =
      let less : i < done = grind (arith, nat_tests) in
      let front : length (take done old) ≡ done = length-take done old ∙ omega arith in
      get_or_append_left (take done old) (new ++ post_of done k old) (pos 0) i (omega arith)
      ∙ get_or-take done old i (pos 0) less ∙ before i less
  by_place false is_behind =
      let more : done ≤ i = grind (arith, nat_tests) in
      let front : length (take done old) ≡ done = length-take done old ∙ omega arith in
      let same : done + (i - done) ≡ i = omega arith in
      get_or-append_right (take done old) (new ++ post_of done k old) done i (pos 0) front more
      ∙ get_or_append_left new (post_of done k old) (pos 0) (i - done) (omega arith)
      ∙ after (i - done) (omega arith) ∙ ap told same

-- replacing a part by one of the same length keeps the length
pub length_kept : (done k : ℕ) (old new : List ℤ) → done + k ≤ length old → length new ≡ k
    → length (put_mid done k old new) ≡ length old
length_kept done k old new inside whole =
    let a = length-append (take done old) (new ++ post_of done k old) in
    let b = length-append new (post_of done k old) in
    let c = length-take done old in
    let d = length-drop k (drop done old) in
    let e = length-drop done old in
    omega (arith, a, b, c, d, e)

-- the samples decoded from the bytes read
pub frames_told : (stored : Option (List ℕ)) (file : List ℕ) (place bits n : ℕ) (bytes : List ℕ) (samples : List ℤ)
    → IsRange stored place bytes → stored ≡ Some file → length bytes ≡ n * (bits / 8)
    → samples ≡ samples_in bits n bytes
    → AreFrames file place bits samples
frames_told stored file place bits n bytes samples range there count read = λ k below.
    let same : range.file ≡ file = same_some (sym range.there ∙ there) in
    let stretch : bytes ≡ take (n * (bits / 8)) (drop place file) =
    range.same ∙ ap (λ (f : List ℕ). take (length bytes) (drop place f)) same
    ∙ ap (λ m. take m (drop place file)) count in
    let long : length samples ≡ n = ap length read ∙ length-samples_in bits n bytes in
    ap (λ (l : List ℤ). get_or l k (pos 0)) read
    ∙ get_or-samples_in_file bits n k place file bytes (pos 0) stretch (omega arith)

-- the sample of a sample frame and a channel, among sample frames read from a later one on
pub sample_told : (file : List ℕ) (place channels depth from done j channel : ℕ) (frames : List ℤ) (count : ℕ)
    → AreFrames file (place + (from + done) * (channels * (depth / 8))) depth frames → length frames ≡ count * channels
    → j < count → 1 ≤ channel → channel ≤ channels
    → get_or frames (j * channels + (channel - 1)) (pos 0)
    ≡ sample_at file place channels depth (from + (done + j)) channel
sample_told file place channels depth from done j channel frames count are long below first last =
    let row : (j + 1) * channels ≤ count * channels = grind arith in
    let inside : j * channels + (channel - 1) < length frames = omega arith in
    let there : place + (from + done) * (channels * (depth / 8)) + (j * channels + (channel - 1)) * (depth / 8)
    ≡ place + ((from + (done + j)) * channels + (channel - 1)) * (depth / 8) = omega arith in
    are (j * channels + (channel - 1)) inside ∙ ap (λ k. sample_of depth (drop k file)) there
