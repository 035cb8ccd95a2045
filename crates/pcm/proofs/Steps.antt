-- Reading or writing one more sample.
use Rattle.std.proofs.Common.{◌≡◌, ◌⊎◌, inl, inr, ℕ, zero, suc, ◌+◌, ◌-◌, ◌*◌, ◌/◌, ◌^◌, ◌<◌, ◌≤◌, List, [], ◌∷◌, ◌++◌, All, length, take, drop, set, get_or, refl, sym, ap, ◌∙◌, arith, length-append}
use Rattle.std.specs.Prelude.{ℤ, pos}
use Rattle.std.specs.Int.{w16, w32, cast_signed}
use Rattle.std.specs.List.{flat_map}
use Rattle.std.proofs.Math.Nat.{mul-le-mul_right}
use Rattle.std.proofs.lemmas.Bool.{cases_lt}
use Rattle.std.proofs.lemmas.Bool.Decides.{nat_tests}
use Rattle.std.proofs.lemmas.Int.{ints, to_z-of_z}
use Rattle.std.proofs.lemmas.List.{append_assoc, append-nil, drop-drop, drop-take, length-take-le, take_all, take_at, take_more, take_more_set}
use Rattle.std.proofs.lemmas.List.Concat.{flat_map-append}
use borrow.Rule.Slice.PartMut.{post_of, put_mid}
use mir.Val.{SFits, of_z, to_z}
use Rattle.byteorder.specs.Endian.{twos_complement}
use Rattle.sound_terms.specs.declared.Depth.{Depth}
use Rattle.sound_terms.specs.Depth.{bits_of}
use Rattle.sound_terms.specs.Laws.{bits_bounded}
use Rattle.sound_terms.specs.Waves.{sample_bytes, sample_of}
use Rattle.pcm.specs.Samples.{samples_in, FitsDepth}
use Rattle.pcm.specs.Laws.{AreBytes, all_fit, bytes_again, length-sample_bytes, sample_of-take, samples_again, samples_in_more}

-- two ways to read 16 bits as a signed number agree
pub signed16 : (x : ℕ) → x < 256 ^ 2 → cast_signed w16 x ≡ twos_complement 2 x
signed16 x below = grind (arith, ints, nat_tests)

pub one_read : (depth i : ℕ) (bytes : List ℕ) (samples : List ℤ) (sample : ℤ) → i < length samples
    → sample ≡ sample_of depth (drop (i * (depth / 8)) bytes)
    → take i samples ≡ samples_in depth i bytes
    → take (i + 1) (set samples i sample) ≡ samples_in depth (i + 1) bytes
one_read depth i bytes samples sample below read before =
    rw (take_more_set samples i sample below, before, read, samples_in_more depth i bytes) refl

-- the first n + m samples are the first n and the next m
samples_in-append : (depth n m : ℕ) (bytes : List ℕ)
    → samples_in depth (n + m) bytes ≡ samples_in depth n bytes ++ samples_in depth m (drop (n * (depth / 8)) bytes)
samples_in-append depth zero m bytes =
    let none : 0 + m ≡ m = omega arith in
    let start : zero * (depth / 8) ≡ 0 = omega arith in
    rw (none, start) refl
samples_in-append depth (suc n) m bytes =
    let more : suc n + m ≡ suc (n + m) = omega arith in
    let further : depth / 8 + n * (depth / 8) ≡ suc n * (depth / 8) = omega arith in
    rw (
      more,
      samples_in-append depth n m (drop (depth / 8) bytes),
      drop-drop (n * (depth / 8)) (depth / 8) bytes,
      further,
    ) refl

-- bytes after the samples do not affect them
pub samples_in-take : (depth m k : ℕ) (bytes : List ℕ) → m * (depth / 8) ≤ k
    → samples_in depth m (take k bytes) ≡ samples_in depth m bytes
samples_in-take depth zero k bytes room = refl
samples_in-take depth (suc m) k bytes room =
    let w = depth / 8 in
    let first : suc m * w ≡ w + m * w = omega arith in
    let split : k ≡ w + (k - w) = omega arith in
    rw (
      sample_of-take depth k bytes (omega arith),
      ap (λ n. drop w (take n bytes)) split ∙ drop-take w (k - w) bytes,
      samples_in-take depth m (k - w) (drop w bytes) (omega arith),
    ) refl

-- the first four samples as 32-bit words
abbrev pub words : List ℤ → List ℤ
words samples = to_z w32 (of_z w32 (get_or samples 0 (pos 0))) ∷ to_z w32 (of_z w32 (get_or samples 1 (pos 0)))
    ∷ to_z w32 (of_z w32 (get_or samples 2 (pos 0))) ∷ to_z w32 (of_z w32 (get_or samples 3 (pos 0))) ∷ []

abbrev pub FitWords : List ℤ → Type 0
FitWords samples = SFits w32 (get_or samples 0 (pos 0)) × SFits w32 (get_or samples 1 (pos 0))
    × SFits w32 (get_or samples 2 (pos 0)) × SFits w32 (get_or samples 3 (pos 0))

-- the first four samples of a list
abbrev pub first_four : List ℤ → List ℤ
first_four samples = get_or samples 0 (pos 0) ∷ get_or samples 1 (pos 0) ∷ get_or samples 2 (pos 0)
    ∷ get_or samples 3 (pos 0) ∷ []

pub all_four : (samples : List ℤ) → length samples ≡ 4 → first_four samples ≡ samples
all_four [] long = absurd (omega arith)
all_four (a ∷ []) long = absurd (omega arith)
all_four (a ∷ b ∷ []) long = absurd (omega arith)
all_four (a ∷ b ∷ c ∷ []) long = absurd (omega arith)
all_four (a ∷ b ∷ c ∷ d ∷ []) long = refl
all_four (a ∷ b ∷ c ∷ d ∷ e ∷ rest) long = absurd (omega arith)

pub words_again : (samples : List ℤ) → FitWords samples → words samples ≡ first_four samples
words_again samples fit =
    rw (
      to_z-of_z w32 (get_or samples 0 (pos 0)) fit.0,
      to_z-of_z w32 (get_or samples 1 (pos 0)) fit.1,
      to_z-of_z w32 (get_or samples 2 (pos 0)) fit.2,
      to_z-of_z w32 (get_or samples 3 (pos 0)) fit.3,
    ) refl

-- four more samples are read from the next sixteen bytes
module _ (depth : Depth) (done width : ℕ) (bytes : List ℕ) (four : List ℤ) (wide : width ≡ bits_of depth / 8)
    (read : four ≡ samples_in (bits_of depth) 4 (take 16 (drop (done * width) bytes))) (fit : FitWords four) where
  pub narrow : bits_of depth / 8 ≤ 4
  narrow = omega (arith, bits_bounded depth)

  pub next_words : words four ≡ samples_in (bits_of depth) 4 (take 16 (drop (done * (bits_of depth / 8)) bytes))
  next_words = words_again four fit ∙ ap first_four (rw wide at read)

  pub next_read : samples_in (bits_of depth) done bytes ++ words four ≡ samples_in (bits_of depth) (done + 4) bytes
  next_read =
      rw (next_words, samples_in-take (bits_of depth) 4 16 (drop (done * (bits_of depth / 8)) bytes) (omega (arith, narrow)))
      (sym (samples_in-append (bits_of depth) done 4 bytes))

  -- if sixteen bytes are left, four samples are left
  pub next_inside : (n : ℕ) → length bytes ≡ n * (bits_of depth / 8) → 16 ≤ length bytes - done * width → done + 4 ≤ n
  next_inside n whole left = by_count (cases_lt n (done + 4)) where
    by_count : (n < done + 4) ⊎ (done + 4 ≤ n) → done + 4 ≤ n
    by_count (inl few) =
        let most : n * (bits_of depth / 8) ≤ (done + 3) * (bits_of depth / 8) =
        mul-le-mul_right (bits_of depth / 8) (omega arith) in
        absurd (omega (arith, narrow, whole, rw wide at left, most))
    by_count (inr enough) = enough

-- the sample is written at its position
pub one_written : (depth i : ℕ) (samples : List ℤ) (bytes new : List ℕ) → SFits w32 (get_or samples i (pos 0))
    → i < length samples → i * (depth / 8) ≤ length bytes
    → new ≡ sample_bytes depth (to_z w32 (of_z w32 (get_or samples i (pos 0))))
    ++ drop (depth / 8) (take (length bytes - i * (depth / 8)) (drop (i * (depth / 8)) bytes))
    → take (i * (depth / 8)) bytes ≡ flat_map (sample_bytes depth) (take i samples)
    → take ((i + 1) * (depth / 8)) (put_mid (i * (depth / 8)) (length bytes - i * (depth / 8)) bytes new)
    ≡ flat_map (sample_bytes depth) (take (i + 1) samples)
one_written depth i samples bytes new wide below room written before =
    let k = length bytes - i * (depth / 8) in
    let behind = drop (depth / 8) (take k (drop (i * (depth / 8)) bytes)) in
    let front = take (i * (depth / 8)) bytes in
    let sample = get_or samples i (pos 0) in
    let word = sample_bytes depth sample in
    let rest = post_of (i * (depth / 8)) k bytes in
    let own : new ≡ word ++ behind =
    written ∙ ap (λ (z : ℤ). sample_bytes depth z ++ behind) (to_z-of_z w32 sample wide) in
    let regroup : front ++ (new ++ rest) ≡ (front ++ word) ++ (behind ++ rest) =
    ap (λ (l : List ℕ). front ++ (l ++ rest)) own
    ∙ ap (λ (l : List ℕ). front ++ l) (append_assoc word behind rest)
    ∙ sym (append_assoc front word (behind ++ rest)) in
    let whole : length (front ++ word) ≡ (i + 1) * (depth / 8) =
    length-append front word
    ∙ rw (length-take-le (i * (depth / 8)) bytes room, length-sample_bytes depth sample) (omega arith) in
    rw (
      regroup,
      take_at (front ++ word) (behind ++ rest) ((i + 1) * (depth / 8)) whole,
      before,
      take_more samples i (pos 0) below,
      flat_map-append,
      append-nil,
    ) refl

-- all samples were read one by one
module _ (depth : Depth) (n : ℕ) (bytes : List ℕ) (samples : List ℤ) (small : AreBytes bytes) (all : length samples ≤ n)
    (read : take n samples ≡ samples_in (bits_of depth) n bytes) where
  whole : samples ≡ samples_in (bits_of depth) n bytes
  whole = sym (take_all n samples all) ∙ read

  pub read_fit : All (FitsDepth (bits_of depth)) samples
  read_fit = rw whole (all_fit depth n bytes small)

  pub read_again : length bytes ≡ n * (bits_of depth / 8) → flat_map (sample_bytes (bits_of depth)) samples ≡ bytes
  read_again long = rw whole (bytes_again depth n bytes small long)

-- samples read back from their bytes
pub written_again : (depth : Depth) (samples : List ℤ) (bytes : List ℕ)
    → bytes ≡ flat_map (sample_bytes (bits_of depth)) samples → All (FitsDepth (bits_of depth)) samples
    → samples_in (bits_of depth) (length samples) bytes ≡ samples
written_again depth samples bytes written fit =
    rw (written ∙ sym (append-nil (flat_map (sample_bytes (bits_of depth)) samples))) (samples_again depth samples [] fit)
