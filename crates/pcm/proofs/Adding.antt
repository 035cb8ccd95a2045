-- Adding samples to sums.
use Rattle.std.proofs.Common.{◌≡◌, ℕ, zero, suc, ◌+◌, ◌-◌, ◌*◌, ◌/◌, ◌<◌, ◌≤◌, List, [], ◌∷◌, ◌++◌, All, length, take, drop, set, get_or, refl, sym, ap, subst, ◌∙◌, arith}
use Rattle.std.specs.Prelude.{ℤ, pos, ◌+ℤ◌}
use Rattle.std.proofs.lemmas.Int.{ints, to_z-of_z}
use mir.Syntax.{w32}
use mir.Val.{SFits, of_z, to_z}
use borrow.Rule.Slice.PartMut.{put_mid}
use Rattle.std.proofs.lemmas.List.{drop-drop, get_or-drop, get_or-take, length-drop, length-take-le}
use Rattle.sound_terms.specs.declared.Depth.{Depth}
use Rattle.sound_terms.specs.Depth.{bits_of}
use Rattle.sound_terms.specs.Waves.{sample_of}
use Rattle.pcm.specs.Samples.{samples_in, summed, FitsDepth}
use Rattle.pcm.specs.Laws.{length-samples_in, get_or-samples_in, length-summed, get_or-summed, samples_in_more}
use Rattle.pcm.proofs.Steps.{FitWords, all_four, narrow, next_inside, next_read, next_words, samples_in-take, words}

-- no samples add nothing
pub summed_none : (sums : List ℤ) → summed sums [] ≡ sums
summed_none [] = refl
summed_none (sum ∷ sums) = refl

-- sums without a sample are unchanged
pub summed_front : (n : ℕ) (sums samples : List ℤ) → length samples ≤ n
    → summed (take n sums) samples ++ drop n sums ≡ summed sums samples
summed_front zero [] samples few = refl
summed_front zero (sum ∷ sums) [] few = refl
summed_front zero (sum ∷ sums) (sample ∷ samples) few = absurd (omega arith)
summed_front (suc n) [] samples few = refl
summed_front (suc n) (sum ∷ sums) [] few =
    ap (λ (l : List ℤ). sum ∷ l) (ap (λ (l : List ℤ). l ++ drop n sums) (sym (summed_none (take n sums)))
    ∙ summed_front n sums [] (omega arith) ∙ summed_none sums)
summed_front (suc n) (sum ∷ sums) (sample ∷ samples) few =
    ap (λ (l : List ℤ). (sum +ℤ sample) ∷ l) (summed_front n sums samples (omega arith))

-- adding more samples to the sums after those already added
pub summed_behind : (n m : ℕ) (sums samples more : List ℤ) → length samples ≡ n → length more ≤ m → n + m ≤ length sums
    → put_mid n m (summed sums samples) (summed (take m (drop n (summed sums samples))) more)
    ≡ summed sums (samples ++ more)
summed_behind zero m sums [] more whole few room =
    rw (summed_none sums) (summed_front m sums more few)
summed_behind zero m sums (sample ∷ samples) more whole few room = absurd (omega arith)
summed_behind (suc n) m [] samples more whole few room = absurd (omega arith)
summed_behind (suc n) m (sum ∷ sums) [] more whole few room = absurd (omega arith)
summed_behind (suc n) m (sum ∷ sums) (sample ∷ samples) more whole few room =
    ap (λ (l : List ℤ). (sum +ℤ sample) ∷ l) (summed_behind n m sums samples more (omega arith) few (omega arith))

-- adding one more sample
pub summed_more : (n : ℕ) (sums samples : List ℤ) (sample : ℤ) → length samples ≡ n → n < length sums
    → set (summed sums samples) n (get_or (summed sums samples) n (pos 0) +ℤ sample) ≡ summed sums (samples ++ sample ∷ [])
summed_more zero [] samples sample whole room = absurd (omega arith)
summed_more zero (sum ∷ sums) [] sample whole room = ap (λ (l : List ℤ). (sum +ℤ sample) ∷ l) (sym (summed_none sums))
summed_more zero (sum ∷ sums) (other ∷ samples) sample whole room = absurd (omega arith)
summed_more (suc n) [] samples sample whole room = absurd (omega arith)
summed_more (suc n) (sum ∷ sums) [] sample whole room = absurd (omega arith)
summed_more (suc n) (sum ∷ sums) (other ∷ samples) sample whole room =
    ap (λ (l : List ℤ). (sum +ℤ other) ∷ l) (summed_more n sums samples sample (omega arith) (omega arith))

-- a sum without a sample is unchanged
pub get_or-summed_behind : (sums samples : List ℤ) (k : ℕ) (d : ℤ) → length samples ≤ k
    → get_or (summed sums samples) k d ≡ get_or sums k d
get_or-summed_behind [] samples k d behind = refl
get_or-summed_behind (sum ∷ sums) [] k d behind = refl
get_or-summed_behind (sum ∷ sums) (sample ∷ samples) zero d behind = absurd (omega arith)
get_or-summed_behind (sum ∷ sums) (sample ∷ samples) (suc k) d behind =
    get_or-summed_behind sums samples k d (omega arith)

-- adding four samples to four sums
pub four_summed : (sums : List ℤ) (a b c d : ℤ) → length sums ≡ 4
    → (get_or sums 0 (pos 0) +ℤ a) ∷ (get_or sums 1 (pos 0) +ℤ b) ∷ (get_or sums 2 (pos 0) +ℤ c)
    ∷ (get_or sums 3 (pos 0) +ℤ d) ∷ [] ≡ summed sums (a ∷ b ∷ c ∷ d ∷ [])
four_summed sums a b c d long = ap (λ (l : List ℤ). summed l (a ∷ b ∷ c ∷ d ∷ [])) (all_four sums long)

-- each sum with its sample fits 32 bits
pub room_at : (sums samples : List ℤ) (k : ℕ) → All (FitsDepth 32) (summed sums samples) → k < length sums
    → k < length samples → SFits w32 (get_or sums k (pos 0) +ℤ get_or samples k (pos 0))
room_at sums samples k room inside near =
    let fits = room k (pos 0) (rw (length-summed sums samples) inside) in
    let same = get_or-summed sums samples k (pos 0) inside near in
    omega (arith, ints, subst (FitsDepth 32) same fits)

-- each sum with its sample fits 32 bits, with both taken as 32-bit words
pub words_fit : (sums samples : List ℤ) (k : ℕ) → All (FitsDepth 32) (summed sums samples)
    → SFits w32 (get_or sums k (pos 0)) → SFits w32 (get_or samples k (pos 0)) → k < length sums → k < length samples
    → SFits w32 (to_z w32 (of_z w32 (get_or sums k (pos 0))) +ℤ to_z w32 (of_z w32 (get_or samples k (pos 0))))
words_fit sums samples k room sum sample inside near =
    rw (to_z-of_z w32 (get_or sums k (pos 0)) sum, to_z-of_z w32 (get_or samples k (pos 0)) sample)
    (room_at sums samples k room inside near)

module _ (depth n : ℕ) (bytes : List ℕ) (sums : List ℤ)
    (room : All (FitsDepth 32) (summed sums (samples_in depth (length sums) bytes))) where
  -- the next sum fits after the first n samples were added
  pub room_behind : (j : ℕ) (d : ℤ) → n ≤ j → j < length sums
      → FitsDepth 32 (get_or (summed sums (samples_in depth n bytes)) j d +ℤ sample_of depth (drop (j * (depth / 8)) bytes))
  room_behind j d later inside =
      let near : j < length (samples_in depth (length sums) bytes) =
      rw (length-samples_in depth (length sums) bytes) inside in
      let as_it_was = get_or-summed_behind sums (samples_in depth n bytes) j d (rw (length-samples_in depth n bytes) later) in
      let sample = get_or-samples_in depth (length sums) j bytes d inside in
      rw (as_it_was, sym sample)
      (subst (FitsDepth 32) (get_or-summed sums (samples_in depth (length sums) bytes) j d inside near)
      (room j d (rw (length-summed sums (samples_in depth (length sums) bytes)) inside)))

  -- the next four sums fit
  pub room_four : (four : List ℤ) → depth / 8 ≤ 4
      → four ≡ samples_in depth 4 (take 16 (drop (n * (depth / 8)) bytes)) → n + 4 ≤ length sums
      → All (FitsDepth 32) (summed (take 4 (drop n (summed sums (samples_in depth n bytes)))) four)
  room_four four narrow read inside = λ k d below.
      let old = summed sums (samples_in depth n bytes) in
      let part = take 4 (drop n old) in
      let w = depth / 8 in
      let all : four ≡ samples_in depth 4 (drop (n * w) bytes) =
      read ∙ samples_in-take depth 4 16 (drop (n * w) bytes) (omega arith) in
      let long : length four ≡ 4 = ap length all ∙ length-samples_in depth 4 (drop (n * w) bytes) in
      let whole : length part ≡ 4 =
      length-take-le 4 (drop n old) (omega (arith, length-drop n old, length-summed sums (samples_in depth n bytes))) in
      let near : k < 4 = omega (arith, below, length-summed part four, whole) in
      let place : n * w + k * w ≡ (n + k) * w = omega arith in
      let sample : get_or four k d ≡ sample_of depth (drop ((n + k) * w) bytes) =
      ap (λ (l : List ℤ). get_or l k d) all ∙ get_or-samples_in depth 4 k (drop (n * w) bytes) d near
      ∙ ap (sample_of depth) (drop-drop (k * w) (n * w) bytes ∙ ap (λ m. drop m bytes) place) in
      let sum : get_or part k d ≡ get_or old (n + k) d = get_or-take 4 (drop n old) k d near ∙ get_or-drop n old k d in
      rw (get_or-summed part four k d (omega arith) (omega arith), sum, sample)
      (room_behind (n + k) d (omega arith) (omega arith))

  -- the next sample is added as a 32-bit word
  module _ (now : List ℤ) (sample : ℤ) (sum_fits : SFits w32 (get_or now n (pos 0))) (sample_fits : SFits w32 sample)
      (inside : n < length sums) (so_far : now ≡ summed sums (samples_in depth n bytes))
      (read : sample ≡ sample_of depth (drop (n * (depth / 8)) bytes)) where
    pub one_fits : SFits w32 (to_z w32 (of_z w32 (get_or now n (pos 0))) +ℤ to_z w32 (of_z w32 sample))
    one_fits =
        let fits = room_behind n (pos 0) (omega arith) inside in
        rw (to_z-of_z w32 (get_or now n (pos 0)) sum_fits, to_z-of_z w32 sample sample_fits, read, so_far)
        (omega (arith, ints, fits))

    pub one_added : set now n (to_z w32 (of_z w32 (to_z w32 (of_z w32 (get_or now n (pos 0))) +ℤ to_z w32 (of_z w32 sample))))
        ≡ summed sums (samples_in depth (n + 1) bytes)
    one_added =
        rw (
          to_z-of_z w32 _ one_fits,
          to_z-of_z w32 (get_or now n (pos 0)) sum_fits,
          to_z-of_z w32 sample sample_fits,
          read,
          so_far,
        )
        (summed_more n sums (samples_in depth n bytes) (sample_of depth (drop (n * (depth / 8)) bytes))
        (length-samples_in depth n bytes) inside ∙ ap (summed sums) (sym (samples_in_more depth n bytes)))

-- the next four samples are added as 32-bit words
module _ (depth : Depth) (done width : ℕ) (bytes : List ℕ) (four : List ℤ) (wide : width ≡ bits_of depth / 8)
    (read : four ≡ samples_in (bits_of depth) 4 (take 16 (drop (done * width) bytes))) (fit : FitWords four)
    (sums now : List ℤ) (each : length bytes ≡ length sums * (bits_of depth / 8))
    (left : 16 ≤ length bytes - done * width) (so_far : now ≡ summed sums (samples_in (bits_of depth) done bytes)) where
  count : done + 4 - done ≡ 4
  count = omega arith

  pub four_inside : done + 4 ≤ length sums
  four_inside = next_inside depth done width bytes four wide read fit (length sums) each left

  pub four_fit : All (FitsDepth 32) (summed sums (samples_in (bits_of depth) (length sums) bytes))
      → All (FitsDepth 32) (summed (take (done + 4 - done) (drop done now)) (words four))
  four_fit room =
      rw (count, so_far)
      (room_four (bits_of depth) done bytes sums room (words four) (narrow depth done width bytes four wide read fit)
      (next_words depth done width bytes four wide read fit) four_inside)

  pub four_added : (new : List ℤ) → new ≡ summed (take (done + 4 - done) (drop done now)) (words four)
      → put_mid done (done + 4 - done) now new ≡ summed sums (samples_in (bits_of depth) (done + 4) bytes)
  four_added new added =
      let before = samples_in (bits_of depth) done bytes in
      let same : new ≡ summed (take 4 (drop done (summed sums before))) (words four) = added ∙ rw (count, so_far) refl in
      rw (count, same, so_far)
      (summed_behind done 4 sums before (words four) (length-samples_in (bits_of depth) done bytes) (omega arith) four_inside
      ∙ ap (summed sums) (next_read depth done width bytes four wide read fit))
