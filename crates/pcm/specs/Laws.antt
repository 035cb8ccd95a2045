-- Laws of samples as bytes, for crates that read or write them.
use Rattle.std.proofs.Common.{◌≡◌, ℕ, zero, suc, ◌+◌, ◌-◌, ◌*◌, ◌/◌, ◌%◌, ◌^◌, ◌<◌, ◌≤◌, List, [], ◌∷◌, ◌++◌, length, take, drop, get_or, slice_index, refl, ap, ◌∙◌, add-one, arith}
use Rattle.std.specs.Prelude.{ℤ, pos, negsuc, ◌+ℤ◌}
use Rattle.std.specs.Int.{saturate_to_bits, w32}
use Rattle.std.specs.List.{All, flat_map}
use Rattle.std.proofs.lemmas.List.{append_assoc, drop-drop, drop-take, drop_at, get_or-drop, length-drop, take-append-drop}
use Rattle.std.proofs.lemmas.Bool.Decides.{nat_tests}
use Rattle.std.proofs.lemmas.Int.{ints}
use Rattle.byteorder.specs.Endian.{little_number, little_bytes, low_bytes, twos_complement}
use Rattle.byteorder.specs.Numbers.{little_from-lt, little_from-take, little_number-reads_back, length-bytes_low_first}
use Rattle.sound_terms.specs.declared.Depth.{Depth}
use Rattle.sound_terms.specs.declared.Depth.TheVariants.{Sixteen, TwentyFour, ThirtyTwo}
use Rattle.sound_terms.specs.Depth.{bits_of}
use Rattle.sound_terms.specs.Mix.{quantized}
use Rattle.sound_terms.specs.Waves.{sample_bytes, sample_of, sample_at}
use Rattle.pcm.specs.Samples.{samples_in, summed, FitsDepth}

-- ---- positions

pub length-samples_in : (depth n : ℕ) (bytes : List ℕ) → length (samples_in depth n bytes) ≡ n
length-samples_in depth zero bytes = refl
length-samples_in depth (suc n) bytes = ap suc (length-samples_in depth n (drop (depth / 8) bytes))

-- sample i starts i words after the first sample
pub get_or-samples_in : (depth n i : ℕ) (bytes : List ℕ) (d : ℤ) → i < n
    → get_or (samples_in depth n bytes) i d ≡ sample_of depth (drop (i * (depth / 8)) bytes)
get_or-samples_in depth zero i bytes d below = absurd (omega arith)
get_or-samples_in depth (suc n) zero bytes d below = let start : 0 ≡ zero * (depth / 8) = omega arith in
    ap (λ k. sample_of depth (drop k bytes)) start
get_or-samples_in depth (suc n) (suc i) bytes d below =
    let further : depth / 8 + i * (depth / 8) ≡ suc i * (depth / 8) = omega arith in
    get_or-samples_in depth n i (drop (depth / 8) bytes) d (omega arith)
    ∙ ap (sample_of depth) (drop-drop (i * (depth / 8)) (depth / 8) bytes ∙ ap (λ k. drop k bytes) further)

-- the first n + 1 samples are the first n samples and the next one
samples_in-suc : (depth n : ℕ) (bytes : List ℕ)
    → samples_in depth (suc n) bytes ≡ samples_in depth n bytes ++ sample_of depth (drop (n * (depth / 8)) bytes) ∷ []
samples_in-suc depth zero bytes =
    let start : 0 ≡ zero * (depth / 8) = omega arith in
    ap (λ k. sample_of depth (drop k bytes) ∷ []) start
samples_in-suc depth (suc n) bytes =
    let further : depth / 8 + n * (depth / 8) ≡ suc n * (depth / 8) = omega arith in
    let place = drop-drop (n * (depth / 8)) (depth / 8) bytes ∙ ap (λ k. drop k bytes) further in
    ap (λ (samples : List ℤ). sample_of depth bytes ∷ samples) (samples_in-suc depth n (drop (depth / 8) bytes)
    ∙ ap (λ (rest : List ℕ). samples_in depth n (drop (depth / 8) bytes) ++ sample_of depth rest ∷ []) place)

pub samples_in_more : (depth n : ℕ) (bytes : List ℕ)
    → samples_in depth (n + 1) bytes ≡ samples_in depth n bytes ++ sample_of depth (drop (n * (depth / 8)) bytes) ∷ []
samples_in_more depth n bytes = ap (λ k. samples_in depth k bytes) (add-one n) ∙ samples_in-suc depth n bytes

-- bytes after a sample do not affect it
pub sample_of-take : (depth n : ℕ) (bytes : List ℕ) → depth / 8 ≤ n → sample_of depth (take n bytes) ≡ sample_of depth bytes
sample_of-take depth n bytes room =
    ap (twos_complement (depth / 8)) (little_from-take 0 (depth / 8) n bytes (omega arith))

-- samples read from part of a file, by their offset in the file
pub get_or-samples_in_file : (depth n i place : ℕ) (file bytes : List ℕ) (d : ℤ)
    → bytes ≡ take (n * (depth / 8)) (drop place file) → i < n
    → get_or (samples_in depth n bytes) i d ≡ sample_of depth (drop (place + i * (depth / 8)) file)
get_or-samples_in_file depth n i place file bytes d stretch below =
    let w = depth / 8 in
    let split : n ≡ i + (n - i) = omega arith in
    let left : n * w ≡ i * w + (n - i) * w = ap (λ k. k * w) split ∙ omega arith in
    let room : w ≤ (n - i) * w = grind (arith, left) in
    get_or-samples_in depth n i bytes d below
    ∙ ap (λ (l : List ℕ). sample_of depth (drop (i * w) l)) stretch
    ∙ ap (sample_of depth) (ap (λ k. drop (i * w) (take k (drop place file))) left
    ∙ drop-take (i * w) ((n - i) * w) (drop place file))
    ∙ sample_of-take depth ((n - i) * w) (drop (i * w) (drop place file)) room
    ∙ ap (sample_of depth) (drop-drop (i * w) place file)

-- samples of whole sample frames read from part of a file, by sample frame and channel
pub get_or-samples_in_frames : (depth n frame channel channels place : ℕ) (file bytes : List ℕ) (d : ℤ)
    → bytes ≡ take (n * (depth / 8)) (drop place file) → frame * channels + (channel - 1) < n
    → get_or (samples_in depth n bytes) (frame * channels + (channel - 1)) d
    ≡ sample_at file place channels depth frame channel
get_or-samples_in_frames depth n frame channel channels place file bytes d stretch below =
    get_or-samples_in_file depth n (frame * channels + (channel - 1)) place file bytes d stretch below

-- ---- samples added to sums

pub length-summed : (sums samples : List ℤ) → length (summed sums samples) ≡ length sums
length-summed [] samples = refl
length-summed (sum ∷ sums) [] = refl
length-summed (sum ∷ sums) (sample ∷ samples) = ap suc (length-summed sums samples)

-- the sum at an index is the old sum plus the sample
pub get_or-summed : (sums samples : List ℤ) (k : ℕ) (d : ℤ) → k < length sums → k < length samples
    → get_or (summed sums samples) k d ≡ get_or sums k d +ℤ get_or samples k d
get_or-summed [] samples k d inside near = absurd (omega arith)
get_or-summed (sum ∷ sums) [] k d inside near = absurd (omega arith)
get_or-summed (sum ∷ sums) (sample ∷ samples) zero d inside near = refl
get_or-summed (sum ∷ sums) (sample ∷ samples) (suc k) d inside near =
    get_or-summed sums samples k d (omega arith) (omega arith)

-- ---- round trip

-- all numbers are below 256
abbrev pub AreBytes : List ℕ → Type 0
AreBytes bytes = (place : ℕ) → slice_index bytes place < 256

pub AreBytes-drop : (n : ℕ) (bytes : List ℕ) → AreBytes bytes → AreBytes (drop n bytes)
AreBytes-drop n bytes small place = let e = get_or-drop n bytes place 0 in let h = small (n + place) in
    omega (arith, e, h)

-- a sample has depth / 8 bytes
pub length-sample_bytes : (depth : ℕ) (sample : ℤ) → length (sample_bytes depth sample) ≡ depth / 8
length-sample_bytes depth sample = length-bytes_low_first 0 (depth / 8) (low_bytes w32 (depth / 8) sample)

-- ---- two's complement in 2, 3 and 4 bytes
low-twos16 : (x : ℕ) → x < 256 ^ 2 → low_bytes w32 2 (twos_complement 2 x) ≡ x
low-twos16 x below = grind (arith, ints, nat_tests)

low-twos24 : (x : ℕ) → x < 256 ^ 3 → low_bytes w32 3 (twos_complement 3 x) ≡ x
low-twos24 x below = grind (arith, ints, nat_tests)

low-twos32 : (x : ℕ) → x < 256 ^ 4 → low_bytes w32 4 (twos_complement 4 x) ≡ x
low-twos32 x below = grind (arith, ints, nat_tests)

twos-low16 : (z : ℤ) → FitsDepth 16 z → twos_complement 2 (low_bytes w32 2 z) ≡ z
twos-low16 (pos n) fits = grind (arith, ints, nat_tests)
twos-low16 (negsuc n) fits = grind (arith, ints, nat_tests)

twos-low24 : (z : ℤ) → FitsDepth 24 z → twos_complement 3 (low_bytes w32 3 z) ≡ z
twos-low24 (pos n) fits = grind (arith, ints, nat_tests)
twos-low24 (negsuc n) fits = grind (arith, ints, nat_tests)

twos-low32 : (z : ℤ) → FitsDepth 32 z → twos_complement 4 (low_bytes w32 4 z) ≡ z
twos-low32 (pos n) fits = grind (arith, ints, nat_tests)
twos-low32 (negsuc n) fits = grind (arith, ints, nat_tests)

fits-twos16 : (x : ℕ) → x < 256 ^ 2 → FitsDepth 16 (twos_complement 2 x)
fits-twos16 x below = grind (arith, ints, nat_tests)

fits-twos24 : (x : ℕ) → x < 256 ^ 3 → FitsDepth 24 (twos_complement 3 x)
fits-twos24 x below = grind (arith, ints, nat_tests)

fits-twos32 : (x : ℕ) → x < 256 ^ 4 → FitsDepth 32 (twos_complement 4 x)
fits-twos32 x below = grind (arith, ints, nat_tests)

-- a sample that was read fits its depth
pub fits_sample_of : (depth : Depth) (bytes : List ℕ) → AreBytes bytes
    → FitsDepth (bits_of depth) (sample_of (bits_of depth) bytes)
fits_sample_of Sixteen bytes small = fits-twos16 (little_number 2 bytes) (little_from-lt 0 2 bytes small)
fits_sample_of TwentyFour bytes small = fits-twos24 (little_number 3 bytes) (little_from-lt 0 3 bytes small)
fits_sample_of ThirtyTwo bytes small = fits-twos32 (little_number 4 bytes) (little_from-lt 0 4 bytes small)

-- ---- sums as samples
clipped16 : (z : ℤ) → FitsDepth 16 (saturate_to_bits 15 z)
clipped16 (pos n) = grind (arith, ints)
clipped16 (negsuc n) = grind (arith, ints)

clipped24 : (z : ℤ) → FitsDepth 24 (saturate_to_bits 23 z)
clipped24 (pos n) = grind (arith, ints)
clipped24 (negsuc n) = grind (arith, ints)

clipped32 : (z : ℤ) → FitsDepth 32 (saturate_to_bits 31 z)
clipped32 (pos n) = grind (arith, ints)
clipped32 (negsuc n) = grind (arith, ints)

-- a rounded and clipped sum fits its depth
pub fits_quantized : (depth : Depth) (sum : ℤ) → FitsDepth (bits_of depth) (quantized (bits_of depth) sum)
fits_quantized Sixteen sum = clipped16 _
fits_quantized TwentyFour sum = clipped24 _
fits_quantized ThirtyTwo sum = clipped32 _

-- ---- samples to bytes and back
-- the bytes of a sample read back as the sample, whatever follows them
pub sample_of-sample_bytes : (depth : Depth) (sample : ℤ) (rest : List ℕ) → FitsDepth (bits_of depth) sample
    → sample_of (bits_of depth) (sample_bytes (bits_of depth) sample ++ rest) ≡ sample
sample_of-sample_bytes Sixteen sample rest fits =
    ap (twos_complement 2) (little_number-reads_back 2 (low_bytes w32 2 sample) rest (omega arith))
    ∙ twos-low16 sample fits
sample_of-sample_bytes TwentyFour sample rest fits =
    ap (twos_complement 3) (little_number-reads_back 3 (low_bytes w32 3 sample) rest (omega arith))
    ∙ twos-low24 sample fits
sample_of-sample_bytes ThirtyTwo sample rest fits =
    ap (twos_complement 4) (little_number-reads_back 4 (low_bytes w32 4 sample) rest (omega arith))
    ∙ twos-low32 sample fits

-- encoding a number read from bytes gives these bytes
bytes_again2 : (bytes : List ℕ) → AreBytes bytes → 2 ≤ length bytes
    → little_bytes 2 (little_number 2 bytes) ≡ take 2 bytes
bytes_again2 (a ∷ b ∷ rest) small room =
    let first = small 0 in
    let second = small 1 in
    let low : little_number 2 (a ∷ b ∷ rest) % 256 ≡ a = omega arith in
    let high : little_number 2 (a ∷ b ∷ rest) / 256 % 256 ≡ b = omega arith in
    rw (low, high) refl
bytes_again2 bytes small room = absurd (omega arith)

bytes_again3 : (bytes : List ℕ) → AreBytes bytes → 3 ≤ length bytes
    → little_bytes 3 (little_number 3 bytes) ≡ take 3 bytes
bytes_again3 (a ∷ b ∷ c ∷ rest) small room =
    let first = small 0 in
    let second = small 1 in
    let third = small 2 in
    let low : little_number 3 (a ∷ b ∷ c ∷ rest) % 256 ≡ a = omega arith in
    let middle : little_number 3 (a ∷ b ∷ c ∷ rest) / 256 % 256 ≡ b = omega arith in
    let high : little_number 3 (a ∷ b ∷ c ∷ rest) / 65536 % 256 ≡ c = omega arith in
    rw (low, middle, high) refl
bytes_again3 bytes small room = absurd (omega arith)

bytes_again4 : (bytes : List ℕ) → AreBytes bytes → 4 ≤ length bytes
    → little_bytes 4 (little_number 4 bytes) ≡ take 4 bytes
bytes_again4 (a ∷ b ∷ c ∷ d ∷ rest) small room =
    let first = small 0 in
    let second = small 1 in
    let third = small 2 in
    let fourth = small 3 in
    let low : little_number 4 (a ∷ b ∷ c ∷ d ∷ rest) % 256 ≡ a = omega arith in
    let next : little_number 4 (a ∷ b ∷ c ∷ d ∷ rest) / 256 % 256 ≡ b = omega arith in
    let middle : little_number 4 (a ∷ b ∷ c ∷ d ∷ rest) / 65536 % 256 ≡ c = omega arith in
    let high : little_number 4 (a ∷ b ∷ c ∷ d ∷ rest) / 16777216 % 256 ≡ d = omega arith in
    rw (low, next, middle, high) refl
bytes_again4 bytes small room = absurd (omega arith)

-- encoding a sample read from bytes gives these bytes
pub sample_bytes-sample_of : (depth : Depth) (bytes : List ℕ) → AreBytes bytes → bits_of depth / 8 ≤ length bytes
    → sample_bytes (bits_of depth) (sample_of (bits_of depth) bytes) ≡ take (bits_of depth / 8) bytes
sample_bytes-sample_of Sixteen bytes small room =
    ap (little_bytes 2) (low-twos16 (little_number 2 bytes) (little_from-lt 0 2 bytes small))
    ∙ bytes_again2 bytes small room
sample_bytes-sample_of TwentyFour bytes small room =
    ap (little_bytes 3) (low-twos24 (little_number 3 bytes) (little_from-lt 0 3 bytes small))
    ∙ bytes_again3 bytes small room
sample_bytes-sample_of ThirtyTwo bytes small room =
    ap (little_bytes 4) (low-twos32 (little_number 4 bytes) (little_from-lt 0 4 bytes small))
    ∙ bytes_again4 bytes small room

-- samples that were read fit their depth
pub all_fit : (depth : Depth) (n : ℕ) (bytes : List ℕ) → AreBytes bytes
    → All (FitsDepth (bits_of depth)) (samples_in (bits_of depth) n bytes)
all_fit depth n bytes small k d below =
    let inside : k < n = rw (length-samples_in (bits_of depth) n bytes) at below in
    rw (get_or-samples_in (bits_of depth) n k bytes d inside)
    (fits_sample_of depth (drop (k * (bits_of depth / 8)) bytes) (AreBytes-drop (k * (bits_of depth / 8)) bytes small))

-- encoding samples read from bytes gives these bytes
pub bytes_again : (depth : Depth) (n : ℕ) (bytes : List ℕ) → AreBytes bytes → length bytes ≡ n * (bits_of depth / 8)
    → flat_map (sample_bytes (bits_of depth)) (samples_in (bits_of depth) n bytes) ≡ bytes
bytes_again depth zero [] small whole = refl
bytes_again depth zero (b ∷ bytes) small whole = absurd (omega arith)
bytes_again depth (suc n) bytes small whole =
    let w = bits_of depth / 8 in
    let split : suc n * w ≡ w + n * w = omega arith in
    let left : length (drop w bytes) ≡ n * w = length-drop w bytes ∙ omega arith in
    let rest = bytes_again depth n (drop w bytes) (AreBytes-drop w bytes small) left in
    rw (sample_bytes-sample_of depth bytes small (omega arith), rest) (take-append-drop w bytes)

-- the bytes of samples read back as the samples, whatever follows them
pub samples_again : (depth : Depth) (samples : List ℤ) (rest : List ℕ) → All (FitsDepth (bits_of depth)) samples
    → samples_in (bits_of depth) (length samples) (flat_map (sample_bytes (bits_of depth)) samples ++ rest) ≡ samples
samples_again depth [] rest fit = refl
samples_again depth (sample ∷ samples) rest fit =
    let bits = bits_of depth in
    let first = sample_bytes bits sample in
    let others = flat_map (sample_bytes bits) samples ++ rest in
    let join : (first ++ flat_map (sample_bytes bits) samples) ++ rest ≡ first ++ others =
    append_assoc first (flat_map (sample_bytes bits) samples) rest in
    let past : drop (bits / 8) (first ++ others) ≡ others =
    drop_at first others (bits / 8) (length-sample_bytes bits sample) in
    rw (join, sample_of-sample_bytes depth sample others (fit 0 sample (omega arith)), past)
    (ap (λ (l : List ℤ). sample ∷ l) (samples_again depth samples rest (λ k d below. fit (suc k) d (omega arith))))
