-- A reading agrees with the silence flags computed from it.
use Rattle.std.proofs.Common.{◌≡◌, ℕ, zero, suc, ◌+◌, ◌<◌, true, arith, refl}
use Rattle.std.specs.Prelude.{ℤ, pos, ◌↔◌, List, [], ◌∷◌}
use Rattle.std.specs.Ordering.{int_eq}
use Rattle.std.proofs.lemmas.Bool.{and_parts}
use Rattle.std.proofs.lemmas.Int.{ints}
use Rattle.sound_terms.specs.declared.piece.Piece.{Piece}
use Rattle.sound_terms.specs.Mix.{Reading}
use Rattle.sound_terms.specs.Groups.{Agrees, IsSilent, pieces_of}
use Rattle.sound_terms.specs.Passes.{are_zero, is_zero_channel, silences}
use Rattle.passes.specs.Silent.{is_silent_in, silences_of}

is_zero : (z : ℤ) → int_eq z (pos 0) ≡ true → z ≡ pos 0
is_zero z e = grind (arith, ints)

zero_channel : (r : Reading) (file channel frame n : ℕ) → is_zero_channel r file channel frame n ≡ true
    → (i : ℕ) → i < n → r file channel (frame + i) ≡ pos 0
zero_channel r file channel frame zero e i below = absurd (omega arith)
zero_channel r file channel frame (suc n) e zero below =
    let parts = and_parts (int_eq (r file channel frame) (pos 0)) (is_zero_channel r file channel (suc frame) n) e in
    let here : frame + 0 ≡ frame = omega arith in
    rw here (is_zero (r file channel frame) parts.0)
zero_channel r file channel frame (suc n) e (suc i) below =
    let parts = and_parts (int_eq (r file channel frame) (pos 0)) (is_zero_channel r file channel (suc frame) n) e in
    let there : frame + suc i ≡ suc frame + i = omega arith in
    rw there (zero_channel r file channel (suc frame) n parts.1 i (omega arith))

zero_channels : (r : Reading) (file channel width frame n : ℕ) → are_zero r file channel width frame n ≡ true
    → (j i : ℕ) → j < width → i < n → r file (channel + j) (frame + i) ≡ pos 0
zero_channels r file channel zero frame n e j i wide below = absurd (omega arith)
zero_channels r file channel (suc width) frame n e zero i wide below =
    let parts = and_parts (is_zero_channel r file channel frame n) (are_zero r file (suc channel) width frame n) e in
    let here : channel + 0 ≡ channel = omega arith in
    rw here (zero_channel r file channel frame n parts.0 i below)
zero_channels r file channel (suc width) frame n e (suc j) i wide below =
    let parts = and_parts (is_zero_channel r file channel frame n) (are_zero r file (suc channel) width frame n) e in
    let there : channel + suc j ≡ suc channel + j = omega arith in
    rw there (zero_channels r file (suc channel) width frame n parts.1 j i (omega arith) below)

is_zero_test : (z : ℤ) → z ≡ pos 0 → int_eq z (pos 0) ≡ true
is_zero_test z e = rw e refl

called_channel : (r : Reading) (file channel frame n : ℕ) → ((i : ℕ) → i < n → r file channel (frame + i) ≡ pos 0)
    → is_zero_channel r file channel frame n ≡ true
called_channel r file channel frame zero each = refl
called_channel r file channel frame (suc n) each =
    let here : frame + 0 ≡ frame = omega arith in
    let first = rw here at (each 0 (omega arith)) in
    rw (is_zero_test (r file channel frame) first) (called_channel r file channel (suc frame) n later) where
      later : (i : ℕ) → i < n → r file channel (suc frame + i) ≡ pos 0
      later i below =
          let there : suc frame + i ≡ frame + suc i = omega arith in rw there (each (suc i) (omega arith))

called_channels : (r : Reading) (file channel width frame n : ℕ)
    → ((j i : ℕ) → j < width → i < n → r file (channel + j) (frame + i) ≡ pos 0)
    → are_zero r file channel width frame n ≡ true
called_channels r file channel zero frame n each = refl
called_channels r file channel (suc width) frame n each =
    rw (called_channel r file channel frame n first) (called_channels r file (suc channel) width frame n later) where
      first : (i : ℕ) → i < n → r file channel (frame + i) ≡ pos 0
      first i below = let here : channel ≡ channel + 0 = omega arith in rw here (each 0 i (omega arith) below)

      later : (j i : ℕ) → j < width → i < n → r file (suc channel + j) (frame + i) ≡ pos 0
      later j i wide below =
          let there : suc channel + j ≡ channel + suc j = omega arith in rw there (each (suc j) i (omega arith) below)

pub silent_is : (r : Reading) (p : Piece) → (is_silent_in r p ≡ true) ↔ IsSilent r p
silent_is r p =
    let is = zero_channels r p.file p.first p.width p.frame p.length in
    let called = called_channels r p.file p.first p.width p.frame p.length in (is, called)

-- a reading agrees with the silence flags computed from it
agrees_with : (r : Reading) (pieces : List Piece) → Agrees r pieces (silences_of r pieces)
agrees_with r [] = tt
agrees_with r (p ∷ ps) = ((silent_is r p).0, agrees_with r ps)

pub agrees : (r : Reading) (groups : List (List Piece)) → Agrees r (pieces_of groups) (silences r groups)
agrees r groups = agrees_with r (pieces_of groups)

-- every reading agrees with an empty list of flags
pub agrees_none : (r : Reading) (pieces : List Piece) → Agrees r pieces []
agrees_none r [] = tt
agrees_none r (p ∷ ps) = tt
