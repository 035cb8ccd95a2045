-- Chunk headers of zero bytes.
use Rattle.std.proofs.Common.{◌≡◌, ℕ, zero, suc, ◌+◌, ◌-◌, ◌*◌, ◌≤◌, ◌<◌, ◌||◌, ◌++◌, All, Bool, true, false, List, [], ◌∷◌, Option, None, Some, length, take, drop, replicate, length-drop, refl, sym, ap, subst, ◌∙◌, arith}
use Rattle.std.proofs.lemmas.List.{drop-take, drop-drop, take-take, take-replicate, drop-replicate, replicate-append-replicate, length-take-le}
use Rattle.std.proofs.Math.Seq.{take-add}
use Rattle.byteorder.specs.Endian.{little_number}
use Rattle.sound_terms.specs.declared.Ds64.{Ds64}
use Rattle.sound_terms.specs.declared.Span.{Span}
use Rattle.sound_terms.specs.Chunks.{Chunk}
use Rattle.riff.specs.declared.found.Found.{Found}
use Rattle.riff.specs.Found.{HasHead, HasZeroHeads, IsAhead, IsFoundIn, IsWalked, chunk_at}
use Rattle.riff.specs.Sizes.{head_size}
use Rattle.riff.proofs.OneMore.{never, one_more, none-or}
use Rattle.riff.proofs.Reading.{ahead_at, number_front}
use Rattle.riff.proofs.Walking.{found_again, walked_step}

-- a smaller number of zero headers
fewer_zeros : (file : List ℕ) (at count fewer : ℕ) → HasZeroHeads file at count → fewer ≤ count
    → HasZeroHeads file at fewer
fewer_zeros file at count fewer has less = record {
  inside = omega (arith, has.inside);
  zeros = sym (take-take (8 * fewer) (8 * count) _ (omega arith)) ∙ ap (take (8 * fewer)) has.zeros
      ∙ take-replicate (8 * fewer) (8 * count) 0 (omega arith);
}

-- zero headers in the bytes that were read
pub zeros_ahead : (file : List ℕ) (at offset count : ℕ) (bytes : List ℕ) → IsAhead file at bytes
    → offset + 8 * count ≤ length bytes → take (8 * count) (drop offset bytes) ≡ replicate (8 * count) 0
    → HasZeroHeads file (at + offset) count
zeros_ahead file at offset count bytes ahead within zeros = record {
  inside = omega (arith, ahead.inside);
  zeros = sym (take-take (8 * count) (length bytes - offset) _ (omega arith))
      ∙ ap (take (8 * count)) (sym (ahead_at file at offset bytes ahead (omega arith))) ∙ zeros;
}

-- a list of zero bytes
all_zeros : (bytes : List ℕ) → All (λ byte. byte ≡ 0) bytes → bytes ≡ replicate (length bytes) 0
all_zeros [] all = refl
all_zeros (byte ∷ bytes) all =
    let first : byte ≡ 0 = all 0 0 (omega arith) in
    let rest : All (λ byte. byte ≡ 0) bytes = λ k d less. all (suc k) d (omega arith) in
    rw first (ap (λ xs. 0 ∷ xs) (all_zeros bytes rest))

-- zero bytes followed by more zero bytes
pub more_zeros : (bytes : List ℕ) (n m : ℕ) → take n bytes ≡ replicate n 0 → n + m ≤ length bytes
    → All (λ byte. byte ≡ 0) (take m (drop n bytes)) → take (n + m) bytes ≡ replicate (n + m) 0
more_zeros bytes n m front within all =
    let rest : take m (drop n bytes) ≡ replicate m 0 =
    all_zeros _ all ∙ ap (λ k. replicate k 0) (length-take-le m (drop n bytes) (omega (arith, length-drop n bytes))) in
    take-add n m bytes ∙ ap (λ xs. xs ++ take m (drop n bytes)) front ∙ ap (λ xs. replicate n 0 ++ xs) rest
    ∙ replicate-append-replicate n m 0

-- one of the zero headers
zero_head_at : (file : List ℕ) (at count i : ℕ) → HasZeroHeads file at count → i < count
    → HasHead file (at + 8 * i) (record { id = 0 ∷ 0 ∷ 0 ∷ 0 ∷ []; size = 0 })
zero_head_at file at count i has inside =
    let rest : ℕ = 8 * count - 8 * i in
    let split : 8 * count ≡ 8 * i + rest = omega arith in
    let here : take rest (drop (at + 8 * i) file) ≡ replicate rest 0 =
    ap (take rest) (sym (drop-drop (8 * i) at file)) ∙ sym (drop-take (8 * i) rest (drop at file))
    ∙ ap (λ n. drop (8 * i) (take n (drop at file))) (sym split) ∙ ap (drop (8 * i)) has.zeros
    ∙ drop-replicate (8 * i) (8 * count) 0 in
    let enough : 8 ≤ rest = omega arith in
    let front : take 8 (drop (at + 8 * i) file) ≡ replicate 8 0 =
    sym (take-take 8 rest _ enough) ∙ ap (take 8) here ∙ take-replicate 8 rest 0 enough in
    record {
      inside = omega (arith, has.inside);
      id = sym (sym (take-take 4 8 _ (omega arith)) ∙ ap (take 4) front);
      size = sym (ap (little_number 4) (sym (drop-drop 4 (at + 8 * i) file))
          ∙ sym (number_front 4 4 (drop 4 (drop (at + 8 * i) file)) (omega arith))
          ∙ ap (little_number 4) (sym (drop-take 4 4 (drop (at + 8 * i) file)) ∙ ap (drop 4) front));
    }

or_true : (b : Bool) → true ≡ (b || true)
or_true true = refl
or_true false = refl

-- a chunk of id 0 and size 0 counts as another chunk
zero_more : (end at : ℕ) (chunks : List Chunk) (found : Found) → IsFoundIn end chunks found
    → IsFoundIn end (chunks ++ chunk_at (0 ∷ 0 ∷ 0 ∷ 0 ∷ []) (record { at = at; length = 0 }) ∷ [])
    (record found { others = true })
zero_more end at chunks found known =
    one_more end chunks found _ _ known (never _) (none-or _) (none-or _) (none-or _) (or_true _)

zero_size : (file : List ℕ) (sizes : Option Ds64)
    → head_size file sizes (record { id = 0 ∷ 0 ∷ 0 ∷ 0 ∷ []; size = 0 }) ≡ Some 0
zero_size file None = refl
zero_size file (Some ds64) = refl

-- after one zero header
walked_zero : (file : List ℕ) (sizes : Option Ds64) (end left : ℕ) (found : Found)
    → IsWalked file sizes end left found → 8 ≤ left
    → HasHead file (end - left) (record { id = 0 ∷ 0 ∷ 0 ∷ 0 ∷ []; size = 0 })
    → IsWalked file sizes end (left - 8) (record found { others = true; seen = found.seen + 1 })
walked_zero file sizes end left found before enough is_head =
    let contents : Span = record { at = end - (left - 8); length = 0 } in
    walked_step file sizes end left found before _ contents _ (left - 8) enough is_head (zero_size file sizes) refl
    (λ known. found_again _ _ _ _ (zero_more _ _ before.before found known)) refl (omega arith)

-- after all zero headers
walked_zeros : (file : List ℕ) (sizes : Option Ds64) (end left count : ℕ) (found : Found)
    → IsWalked file sizes end left found → 8 * suc count ≤ left → HasZeroHeads file (end - left) (suc count)
    → IsWalked file sizes end (left - 8 * suc count) (record found { others = true; seen = found.seen + suc count })
walked_zeros file sizes end left zero found before enough has = walked_zero file sizes end left found before enough
    (subst (λ n. HasHead file n (record { id = 0 ∷ 0 ∷ 0 ∷ 0 ∷ []; size = 0 })) (omega arith) (zero_head_at file (end - left) 1 0 has (omega arith)))
walked_zeros file sizes end left (suc count) found before enough has =
    let fewer : HasZeroHeads file (end - left) (suc count) = fewer_zeros file (end - left) (suc (suc count)) (suc count) has (omega arith) in
    let most = walked_zeros file sizes end left count found before (omega arith) fewer in
    let last = zero_head_at file (end - left) (suc (suc count)) (suc count) has (omega arith) in
    let within = before.within in
    let place : end - left + 8 * suc count ≡ end - (left - 8 * suc count) = omega arith in
    let next = walked_zero file sizes end (left - 8 * suc count) _ most (omega arith)
    (subst (λ n. HasHead file n (record { id = 0 ∷ 0 ∷ 0 ∷ 0 ∷ []; size = 0 })) place last) in
    subst (λ n. IsWalked file sizes end n (record found { others = true; seen = found.seen + suc (suc count) }))
    (omega arith)
    (subst (λ n. IsWalked file sizes end (left - 8 * suc count - 8) (record found { others = true; seen = n }))
    (omega arith) next)

pub walked_all_zeros : (file : List ℕ) (sizes : Option Ds64) (end left count : ℕ) (found : Found)
    → IsWalked file sizes end left found → 0 < count → 8 * count ≤ left → HasZeroHeads file (end - left) count
    → IsWalked file sizes end (left - 8 * count) (record found { others = true; seen = found.seen + count })
walked_all_zeros file sizes end left zero found before some enough has = absurd (omega arith)
walked_all_zeros file sizes end left (suc count) found before some enough has =
    walked_zeros file sizes end left count found before enough has
