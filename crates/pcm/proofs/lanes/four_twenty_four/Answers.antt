use Rattle.std.proofs.Common.{◌≡◌, ℕ, List, ◌+◌, ◌*◌, ◌^◌, ◌<◌, drop, get_or, refl, ap, ◌∙◌, arith}
use Rattle.std.proofs.lemmas.List.{drop-drop, get_or-drop}
use Rattle.std.proofs.lemmas.Simd.{Each1-get_or}
use mir.Syntax.{w8}
use mir.Val.{Fits}
use Rattle.byteorder.specs.Endian.{little_number}
use Rattle.pcm.proofs.Shifts.{four_are, four_shifted}
use Rattle.pcm.proofs.lanes.four_twenty_four.Goals as goal

pub returns : goal.returns
returns c =
    let bytes = c.args.bytes in
    let small : (k : ℕ) → k < 16 → get_or bytes k 0 < 256 = λ k below.
    (Each1-get_or (Fits w8) bytes k 0 (omega (arith, c.fits-bytes.0)) c.fits-bytes.1).fits in
    let three : ℕ → ℕ = λ k. get_or bytes k 0 + 256 * (get_or bytes (k + 1) 0 + 256 * (get_or bytes (k + 2) 0 + 256 * 0)) in
    let fits : (k : ℕ) → k < 14 → three k < 2 ^ 24 = λ k below.
    omega (arith, small k (omega arith), small (k + 1) (omega arith), small (k + 2) (omega arith)) in
    let same : (b0 b1 b2 b3 b4 b5 b6 b7 b8 b9 b10 b11 : ℕ)
    → 0 + 256 * (b0 + 256 * (b1 + 256 * (b2 + 256 * (0 + 256 * (b3 + 256 * (b4 + 256 * (b5 + 256 * (0 + 256
    * (b6 + 256 * (b7 + 256 * (b8 + 256 * (0 + 256 * (b9 + 256 * (b10 + 256 * (b11 + 256 * 0)))))))))))))))
    ≡ 256 * (b0 + 256 * (b1 + 256 * (b2 + 256 * 0))) + 4294967296 * (256 * (b3 + 256 * (b4 + 256 * (b5 + 256 * 0)))
    + 4294967296 * (256 * (b6 + 256 * (b7 + 256 * (b8 + 256 * 0)))
    + 4294967296 * (256 * (b9 + 256 * (b10 + 256 * (b11 + 256 * 0))) + 4294967296 * 0))) =
    λ b0 b1 b2 b3 b4 b5 b6 b7 b8 b9 b10 b11. omega arith in
    let at : (k : ℕ) → little_number 3 (drop k bytes) ≡ three k = λ k.
    let front : k + 0 ≡ k = omega arith in
    rw (get_or-drop k bytes 0 0, get_or-drop k bytes 1 0, get_or-drop k bytes 2 0, front) refl in
    let third : little_number 3 (drop 3 (drop 3 bytes)) ≡ three 6 = ap (little_number 3) (drop-drop 3 3 bytes) ∙ at 6 in
    let fourth : little_number 3 (drop 3 (drop 3 (drop 3 bytes))) ≡ three 9 =
    ap (λ (l : List ℕ). little_number 3 (drop 3 l)) (drop-drop 3 3 bytes) ∙ ap (little_number 3) (drop-drop 3 6 bytes)
    ∙ at 9 in
    ap four_shifted (same _ _ _ _ _ _ _ _ _ _ _ _)
    ∙ four_are (three 0) (three 3) (three 6) (three 9) (fits 0 (omega arith)) (fits 3 (omega arith))
    (fits 6 (omega arith)) (fits 9 (omega arith))
    ∙ rw (at 3, third, fourth) refl
