-- Samples read from a file are within full scale, part by part.
use Rattle.std.proofs.Common.{◌≡◌, ◌⊎◌, inl, inr, ℕ, ◌+◌, ◌-◌, ◌*◌, ◌^◌, ◌<◌, ◌≤◌, All, List, length, get_or, sym, subst, arith}
use Rattle.std.specs.Prelude.{ℤ, pos, negsuc, neg_ℤ, ◌≤ℤ◌}
use Rattle.std.proofs.lemmas.Bool.{cases_lt}
use Rattle.std.proofs.lemmas.Int.{ints}
use Rattle.std.proofs.Math.IntN.{negsuc-*ℤ-pos, pos-*ℤ-pos}
use Rattle.sound_terms.specs.declared.Depth.{Depth}
use Rattle.sound_terms.specs.declared.Depth.TheVariants.{Sixteen, TwentyFour, ThirtyTwo}
use Rattle.sound_terms.specs.declared.block.Stretch.{Stretch}
use Rattle.sound_terms.specs.Depth.{bits_of}
use Rattle.sound_terms.specs.Mix.{Reading, full_scale}
use Rattle.pcm.specs.Samples.{FitsDepth}
use Rattle.sound_terms.specs.Blocks.{IsFull}
use Rattle.blockmachine.specs.Playing.{Plays}

abbrev Within : ℤ → Type 0
Within z = (neg_ℤ (pos (2 ^ 47)) ≤ℤ z) × (z ≤ℤ pos (2 ^ 47))

-- a sample of a depth at full scale
full16 : (z : ℤ) → FitsDepth 16 z → Within (full_scale 16 z)
full16 (pos n) fits =
    subst Within (sym (pos-*ℤ-pos n (2 ^ 32))) (omega (arith, ints, fits.0), omega (arith, ints, fits.1))
full16 (negsuc n) fits =
    subst Within (sym (negsuc-*ℤ-pos n (2 ^ 32))) (omega (arith, ints, fits.0), omega (arith, ints, fits.1))

full24 : (z : ℤ) → FitsDepth 24 z → Within (full_scale 24 z)
full24 (pos n) fits =
    subst Within (sym (pos-*ℤ-pos n (2 ^ 24))) (omega (arith, ints, fits.0), omega (arith, ints, fits.1))
full24 (negsuc n) fits =
    subst Within (sym (negsuc-*ℤ-pos n (2 ^ 24))) (omega (arith, ints, fits.0), omega (arith, ints, fits.1))

full32 : (z : ℤ) → FitsDepth 32 z → Within (full_scale 32 z)
full32 (pos n) fits =
    subst Within (sym (pos-*ℤ-pos n (2 ^ 16))) (omega (arith, ints, fits.0), omega (arith, ints, fits.1))
full32 (negsuc n) fits =
    subst Within (sym (negsuc-*ℤ-pos n (2 ^ 16))) (omega (arith, ints, fits.0), omega (arith, ints, fits.1))

pub full_sample : (depth : Depth) (z : ℤ) → FitsDepth (bits_of depth) z → Within (full_scale (bits_of depth) z)
full_sample Sixteen z fits = full16 z fits
full_sample TwentyFour z fits = full24 z fits
full_sample ThirtyTwo z fits = full32 z fits

-- all samples of a stretch
pub full_frames : (reading : Reading) (part : Stretch) (channels : ℕ) (depth : Depth) (frames : List ℤ)
    → All (FitsDepth (bits_of depth)) frames → Plays reading part channels (bits_of depth) frames
    → length frames ≡ part.length * channels → 1 ≤ part.first → part.first + part.width ≤ channels + 1
    → IsFull reading part
full_frames reading part channels depth frames fit plays whole first last = λ j i on below.
    let row : (i + 1) * channels ≤ part.length * channels = grind arith in
    let k = i * channels + (part.first - 1 + j) in
    let within : k < length frames = omega arith in
    subst Within (plays i j below on) (full_sample depth (get_or frames k (pos 0)) (fit k (pos 0) within))

-- one more part
pub full_more : (reading : Reading) (stretch : Stretch) (done count : ℕ)
    → IsFull reading (record stretch { length = done })
    → IsFull reading (record stretch { at = stretch.at + done; length = count; frame = stretch.frame + done })
    → IsFull reading (record stretch { length = done + count })
full_more reading stretch done count front behind = λ j i on below. by_place j i on below (cases_lt i done) where
  by_place : (j i : ℕ) → j < stretch.width → i < done + count → (i < done) ⊎ (done ≤ i)
      → Within (reading stretch.file (stretch.first + j) (stretch.frame + i))
  by_place j i on below (inl before) = front j i on before
  by_place j i on below (inr later) =
      let frame : stretch.frame + done + (i - done) ≡ stretch.frame + i = omega arith in
      subst (λ (f : ℕ). Within (reading stretch.file (stretch.first + j) f)) frame
      (behind j (i - done) on (omega arith))
