-- Samples of two depths at full scale.
use Rattle.std.proofs.Common.{◌≡◌, ◌⊎◌, inl, inr, get_or, ℕ, zero, suc, ◌+◌, ◌-◌, ◌*◌, ◌/◌, ◌<◌, ◌≤◌, Bool, true, false, not, cond, eqb, List, [], ◌∷◌, ◌++◌, map, length, take, drop, refl, sym, ap, ◌∙◌, arith, eqb-true}
use Rattle.std.specs.Prelude.{ℤ}
use Rattle.std.proofs.lemmas.Bool.{cases_lt}
use Rattle.std.proofs.lemmas.Bool.Decides.{nat_tests}
use Rattle.std.proofs.lemmas.Int.{ints}
use Rattle.std.proofs.lemmas.List.{drop-drop, drop-take, get_or-drop, get_or_past, map-append}
use Rattle.std.proofs.lemmas.Simd.{Each1-get_or}
use lib.Lanes.{Each1, zip2, mask_l, top}
use mir.Syntax.{w8}
use mir.Val.{Fits}
use Rattle.sound_terms.specs.Mix.{full_scale}
use Rattle.sound_terms.specs.Waves.{sample_of}
use Rattle.pcm.specs.Samples.{samples_in}
use Rattle.pcm.specs.Laws.{sample_of-take, samples_in_more}
use Rattle.comparison.specs.Stored.{full_samples}

-- 16-bit and 24-bit samples in the upper bytes of 32 bits
low16 : (a b : ℕ) (rest : List ℕ) → a < 256 → b < 256
    → full_scale 32 (sample_of 32 (0 ∷ 0 ∷ a ∷ b ∷ rest)) ≡ full_scale 16 (sample_of 16 (a ∷ b ∷ []))
low16 a b rest first second = grind (arith, ints, nat_tests)

low24 : (a b c : ℕ) (rest : List ℕ) → a < 256 → b < 256 → c < 256
    → full_scale 32 (sample_of 32 (0 ∷ a ∷ b ∷ c ∷ rest)) ≡ full_scale 24 (sample_of 24 (a ∷ b ∷ c ∷ []))
low24 a b c rest first second third = grind (arith, ints, nat_tests)

-- the bytes of a vector
small_bytes : (bytes : List ℕ) → Each1 (Fits w8) bytes → (k : ℕ) → get_or bytes k 0 < 256
small_bytes bytes fit k = by_position (cases_lt k (length bytes)) where
  by_position : (k < length bytes) ⊎ (length bytes ≤ k) → get_or bytes k 0 < 256
  by_position (inl below) = (Each1-get_or (Fits w8) bytes k 0 below fit).fits
  by_position (inr past) = omega (arith, get_or_past bytes k 0 past)

module _ (bytes : List ℕ) (fit : Each1 (Fits w8) bytes) (position : ℕ) (rest : List ℕ) where
  small : (k : ℕ) → get_or bytes k 0 < 256
  small = small_bytes bytes fit

  pub upper16 : full_scale 32 (sample_of 32 (0 ∷ 0 ∷ get_or bytes (position + 0) 0 ∷ get_or bytes (position + 1) 0 ∷ rest))
      ≡ full_scale 16 (sample_of 16 (drop position bytes))
  upper16 =
      rw (get_or-drop position bytes 0 0, get_or-drop position bytes 1 0)
      (low16 (get_or bytes (position + 0) 0) (get_or bytes (position + 1) 0) rest (small (position + 0)) (small (position + 1)))

  pub upper24 : full_scale 32 (sample_of 32 (0 ∷ get_or bytes (position + 0) 0 ∷ get_or bytes (position + 1) 0
      ∷ get_or bytes (position + 2) 0 ∷ rest)) ≡ full_scale 24 (sample_of 24 (drop position bytes))
  upper24 =
      rw (get_or-drop position bytes 0 0, get_or-drop position bytes 1 0, get_or-drop position bytes 2 0)
      (low24 (get_or bytes (position + 0) 0) (get_or bytes (position + 1) 0) (get_or bytes (position + 2) 0) rest
      (small (position + 0)) (small (position + 1)) (small (position + 2)))

four_alike : (a b c d e f g h : ℤ) → a ≡ e → b ≡ f → c ≡ g → d ≡ h
    → ◌≡◌ {A = List ℤ} (a ∷ b ∷ c ∷ d ∷ []) (e ∷ f ∷ g ∷ h ∷ [])
four_alike a b c d e f g h one two three four = cc

-- four samples of a depth, of w bytes each
pub four_as : (depth w : ℕ) (bytes : List ℕ) (a b c d : ℤ) → a ≡ full_scale depth (sample_of depth bytes)
    → b ≡ full_scale depth (sample_of depth (drop w bytes)) → c ≡ full_scale depth (sample_of depth (drop (w + w) bytes))
    → d ≡ full_scale depth (sample_of depth (drop (w + w + w) bytes))
    → ◌≡◌ {A = List ℤ} (a ∷ b ∷ c ∷ d ∷ [])
    (full_scale depth (sample_of depth bytes) ∷ full_scale depth (sample_of depth (drop w bytes))
    ∷ full_scale depth (sample_of depth (drop w (drop w bytes)))
    ∷ full_scale depth (sample_of depth (drop w (drop w (drop w bytes)))) ∷ [])
four_as depth w bytes a b c d one two three four =
    let sample : List ℕ → ℤ = λ l. full_scale depth (sample_of depth l) in
    let after = drop-drop w w bytes in
    let last = ap (drop w) after ∙ drop-drop w (w + w) bytes in
    four_alike _ _ _ _ _ _ _ _ one two (three ∙ ap sample (sym after)) (four ∙ ap sample (sym last))

-- ---- byte vectors

abbrev pub differs : ℕ → ℕ → ℕ
differs a b = cond (not (eqb a b)) 255 0

flag : (x y : ℕ) → ◌≡◌ {A = ℕ} (cond (top 7 (differs x y)) 1 0) 0 → x ≡ y
flag x y = by_test (eqb x y) refl where
  by_test : (t : Bool) → eqb x y ≡ t → ◌≡◌ {A = ℕ} (cond (top 7 (cond (not t) 255 0)) 1 0) 0 → x ≡ y
  by_test true e = λ _. eqb-true _ _ e
  by_test false e = λ q. absurd (omega arith)

-- if no bit of the mask is set, all lanes are equal
pub same_by_mask : (xs ys : List ℕ) → length xs ≡ length ys → mask_l (map (top 7) (zip2 differs xs ys)) ≡ 0 → xs ≡ ys
same_by_mask [] [] long none = refl
same_by_mask [] (y ∷ ys) long none = absurd (omega (arith, long))
same_by_mask (x ∷ xs) [] long none = absurd (omega (arith, long))
same_by_mask (x ∷ xs) (y ∷ ys) long none =
    let first : x ≡ y = flag x y (omega (arith, none)) in
    let rest : xs ≡ ys = same_by_mask xs ys (omega (arith, long)) (omega (arith, none)) in
    rw (first, rest) refl

-- ---- concatenation of samples

samples_in-append : (depth n m : ℕ) (bytes : List ℕ)
    → samples_in depth (n + m) bytes ≡ samples_in depth n bytes ++ samples_in depth m (drop (n * (depth / 8)) bytes)
samples_in-append depth zero m bytes =
    let none : 0 + m ≡ m = omega arith in
    let start : zero * (depth / 8) ≡ 0 = omega arith in
    rw (none, start) refl
samples_in-append depth (suc n) m bytes =
    let more : suc n + m ≡ suc (n + m) = omega arith in
    let further : depth / 8 + n * (depth / 8) ≡ suc n * (depth / 8) = omega arith in
    rw (
      more,
      samples_in-append depth n m (drop (depth / 8) bytes),
      drop-drop (n * (depth / 8)) (depth / 8) bytes,
      further,
    ) refl

samples_in-take : (depth m k : ℕ) (bytes : List ℕ) → m * (depth / 8) ≤ k
    → samples_in depth m (take k bytes) ≡ samples_in depth m bytes
samples_in-take depth zero k bytes room = refl
samples_in-take depth (suc m) k bytes room =
    let w = depth / 8 in
    let first : suc m * w ≡ w + m * w = omega arith in
    let split : k ≡ w + (k - w) = omega arith in
    rw (
      sample_of-take depth k bytes (omega arith),
      ap (λ n. drop w (take n bytes)) split ∙ drop-take w (k - w) bytes,
      samples_in-take depth m (k - w) (drop w bytes) (omega arith),
    ) refl

-- four more samples, of sixteen bytes
pub four_more : (depth n : ℕ) (bytes : List ℕ) → depth / 8 ≤ 4
    → full_samples depth (n + 4) bytes
    ≡ full_samples depth n bytes ++ full_samples depth 4 (take 16 (drop (n * (depth / 8)) bytes))
four_more depth n bytes narrow =
    ap (map (full_scale depth)) (samples_in-append depth n 4 bytes)
    ∙ map-append (full_scale depth) (samples_in depth n bytes) (samples_in depth 4 (drop (n * (depth / 8)) bytes))
    ∙ ap (λ (l : List ℤ). full_samples depth n bytes ++ map (full_scale depth) l)
    (sym (samples_in-take depth 4 16 (drop (n * (depth / 8)) bytes) (omega arith)))

-- one more sample
one_more : (depth n : ℕ) (bytes : List ℕ) → full_samples depth (n + 1) bytes
    ≡ full_samples depth n bytes ++ full_scale depth (sample_of depth (drop (n * (depth / 8)) bytes)) ∷ []
one_more depth n bytes =
    ap (map (full_scale depth)) (samples_in_more depth n bytes)
    ∙ map-append (full_scale depth) (samples_in depth n bytes) (sample_of depth (drop (n * (depth / 8)) bytes) ∷ [])

-- one more sample that is equal at 32 bits
pub one_same : (depth other n : ℕ) (bytes others : List ℕ) (sample counterpart : ℤ)
    → full_scale 32 sample ≡ full_scale depth (sample_of depth (drop (n * (depth / 8)) bytes))
    → full_scale 32 counterpart ≡ full_scale other (sample_of other (drop (n * (other / 8)) others))
    → sample ≡ counterpart → full_samples depth n bytes ≡ full_samples other n others
    → full_samples depth (n + 1) bytes ≡ full_samples other (n + 1) others
one_same depth other n bytes others sample counterpart is other_is equal so_far =
    let same : full_scale depth (sample_of depth (drop (n * (depth / 8)) bytes))
    ≡ full_scale other (sample_of other (drop (n * (other / 8)) others)) =
    sym is ∙ ap (full_scale 32) equal ∙ other_is in
    one_more depth n bytes ∙ rw (so_far, same) (sym (one_more other n others))
