-- Each sample of a piece is at most full scale, so sums of few pieces fit in 64 bits.
use Rattle.std.proofs.Common.{◌≡◌, ℕ, zero, suc, ◌+◌, ◌-◌, ◌*◌, ◌/◌, ◌^◌, ◌<◌, ◌≤◌, min, Bool, true, false, refl, sym, ap, subst, arith}
use Rattle.std.specs.Prelude.{ℤ, pos, negsuc, neg_ℤ, ◌+ℤ◌, ◌≤ℤ◌, ◌&&◌, nat_le, nat_lt, if◌then◌else◌}
use Rattle.std.specs.Int.{int_div_euclid}
use Rattle.std.proofs.lemmas.Bool.Decides.{nat_tests}
use Rattle.std.proofs.lemmas.Int.{ints}
use Rattle.std.proofs.Math.Nat.{div-le_of_le-mul, div-lt_iff_lt-mul, mul-le-mul_left, zero-div}
use Rattle.std.proofs.Math.IntN.{negsuc-*ℤ-pos, pos-*ℤ-pos}
use Rattle.sound_terms.specs.declared.piece.Piece.{Piece}
use Rattle.sound_terms.specs.declared.piece.Shape.{Shape}
use Rattle.sound_terms.specs.declared.piece.Shape.TheVariants.{Flat, Rise, Fall}
use Rattle.sound_terms.specs.Mix.{Reading, share_of}
use Rattle.sound_terms.specs.Groups.{IsPiece, IsRamp, fraction_of, is_under, part_of}
use Rattle.sound_terms.specs.Blocks.{held}

-- the magnitude is at most the sum of m samples at full scale
abbrev pub IsWithin : ℕ → ℤ → Type 0
IsWithin m z = (neg_ℤ (pos (m * 2 ^ 47)) ≤ℤ z) × (z ≤ℤ pos (m * 2 ^ 47))

pub within_add : (m n : ℕ) (x y : ℤ) → IsWithin m x → IsWithin n y → IsWithin (m + n) (x +ℤ y)
within_add m n x y first second = (omega (arith, ints, first, second), omega (arith, ints, first, second))

-- the sum of few samples isn't saturated
pub held_few : (m : ℕ) (z : ℤ) → m ≤ 32767 → IsWithin m z → held z ≡ z
held_few m (pos n) few within =
    let below : min n (2 ^ 63 - 1) ≡ n = omega (arith, ints, within) in ap pos below
held_few m (negsuc n) few within =
    let below : min n (2 ^ 63 - 1) ≡ n = omega (arith, ints, within) in ap negsuc below

negative_share : (n den bound : ℕ) → 0 < den → n ≤ bound * den → bound ≤ 2 ^ 47
    → IsWithin 1 (int_div_euclid (neg_ℤ (pos n)) (pos den))
negative_share zero den bound some few small = let none : 0 / den ≡ 0 = zero-div den in
    rw none (omega (arith, ints), omega (arith, ints))
negative_share (suc n) den zero some few small = absurd (omega arith)
negative_share (suc n) den (suc bound) some few small =
    let less : n / den < suc bound = (div-lt_iff_lt-mul some).1 few in
    (omega (arith, ints, less), omega (arith, ints, less))

share_within : (v : ℤ) (num den : ℕ) → IsWithin 1 v → num ≤ den → 0 < den → IsWithin 1 (share_of v (num, den))
share_within (pos n) num den within le some =
    let less : n * num / den ≤ n = div-le_of_le-mul den (omega (arith, mul-le-mul_left n le)) in
    let is : share_of (pos n) (num, den) ≡ pos (n * num / den) =
    ap (λ z. int_div_euclid z (pos den)) (pos-*ℤ-pos n num) in
    subst (λ (z : ℤ). IsWithin 1 z) (sym is) (omega (arith, ints, less, within), omega (arith, ints, less, within))
share_within (negsuc n) num den within le some =
    let is : share_of (negsuc n) (num, den) ≡ int_div_euclid (neg_ℤ (pos (suc n * num))) (pos den) =
    ap (λ z. int_div_euclid z (pos den)) (negsuc-*ℤ-pos n num) in
    subst (λ (z : ℤ). IsWithin 1 z) (sym is)
    (negative_share (suc n * num) den (suc n) some (mul-le-mul_left (suc n) le) (omega (arith, ints, within)))

-- a fade doesn't increase the magnitude of a sample
ramp_fraction : (v : ℤ) (shape : Shape) (n i : ℕ) → IsRamp shape n → i < n → IsWithin 1 v
    → IsWithin 1 (share_of v (fraction_of shape i))
ramp_fraction v Flat n i ramp below within = share_within v 1 1 within (omega arith) (omega arith)
ramp_fraction v (Rise offset den) n i ramp below within =
    share_within v (offset + i) den within (omega (arith, ramp.0)) (omega (arith, ramp.0))
ramp_fraction v (Fall offset den) n i ramp below within =
    share_within v (den - (offset + i)) den within (omega arith) (omega (arith, ramp.0))

-- 1 if the piece covers this time, else 0
abbrev pub holds : Piece → ℕ → ℕ
holds p time = if nat_le p.start time && nat_lt time (p.start + p.length) then 1 else 0

gated : (a b h : Bool) (x : ℤ) → ((a && (b && h)) ≡ true → IsWithin 1 x)
    → IsWithin (if h then 1 else 0) (if a && (b && h) then x else pos 0)
gated true true true x here = here refl
gated true true false x here = (omega (arith, ints), omega (arith, ints))
gated true false h x here = nothing h where
  nothing : (h : Bool) → IsWithin (if h then 1 else 0) (pos 0)
  nothing true = (omega (arith, ints), omega (arith, ints))
  nothing false = (omega (arith, ints), omega (arith, ints))
gated false b h x here = nothing h where
  nothing : (h : Bool) → IsWithin (if h then 1 else 0) (pos 0)
  nothing true = (omega (arith, ints), omega (arith, ints))
  nothing false = (omega (arith, ints), omega (arith, ints))

-- bound of the sample that a piece adds at a time, if its source is within full scale
pub part_within : (reading : Reading) (p : Piece) → IsPiece p → (channel time : ℕ)
    → (is_under p channel time ≡ true → IsWithin 1 (reading p.file (p.first + (channel - p.dest))
    (p.frame + (time - p.start))))
    → IsWithin (holds p time) (part_of reading p channel time)
part_within reading p ok channel time full =
    gated (nat_le p.dest channel) (nat_lt channel (p.dest + p.width))
    (nat_le p.start time && nat_lt time (p.start + p.length)) _ within where
      within : is_under p channel time ≡ true
          → IsWithin 1 (share_of (reading p.file (p.first + (channel - p.dest)) (p.frame + (time - p.start)))
          (fraction_of p.shape (time - p.start)))
      within under =
          let inside : time - p.start < p.length = grind (arith, nat_tests, ok.some) in
          ramp_fraction _ p.shape p.length (time - p.start) ok.ramp inside (full under)
