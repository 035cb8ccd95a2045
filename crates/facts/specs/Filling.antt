-- Filling a buffer with consecutive words.
use Rattle.std.proofs.Common.{◌≡◌, ℕ, ◌+◌, List, [], ◌++◌, length, take, drop, refl, sym, ap, ◌∙◌, arith, length-append}
use Rattle.std.proofs.lemmas.List.{append_assoc, drop_at, take_at, drop-drop}

-- one more word is written at offset n, up to m
filled : (front word old now new : List ℕ) (n m : ℕ) → length front ≡ n → n + length word ≡ m
    → now ≡ front ++ drop n old
    → new ≡ take n now ++ (word ++ drop (n + length word) now) → new ≡ front ++ (word ++ drop m old)
filled front word old now new n m long wide before put =
    let rest : List ℕ = drop n old in
    let taken : take n now ≡ front = ap (take n) before ∙ take_at front rest n long in
    let behind : drop (n + length word) now ≡ drop m old =
    ap (drop (n + length word)) before ∙ sym (drop-drop (length word) n (front ++ rest))
    ∙ ap (drop (length word)) (drop_at front rest n long) ∙ drop-drop (length word) n old ∙ ap (λ k. drop k old) wide in
    put ∙ rw (taken, behind)

-- three consecutive words are written: the second at offset i, the third at j, up to k
pub three_filled : (a b c old x y z : List ℕ) (i j k : ℕ) → length a ≡ i → i + length b ≡ j → j + length c ≡ k
    → x ≡ take 0 old ++ (a ++ drop (0 + length a) old) → y ≡ take i x ++ (b ++ drop (i + length b) x)
    → z ≡ take j y ++ (c ++ drop (j + length c) y) → z ≡ a ++ (b ++ (c ++ drop k old))
three_filled a b c old x y z i j k first second third x-is y-is z-is =
    let one = filled [] a old old x 0 i refl (omega arith) refl x-is in
    let two = filled a b old x y i j first second one y-is ∙ sym (append_assoc a b (drop j old)) in
    let long : length (a ++ b) ≡ j = omega (arith, length-append a b) in
    filled (a ++ b) c old y z j k long third two z-is ∙ append_assoc a b (c ++ drop k old)
