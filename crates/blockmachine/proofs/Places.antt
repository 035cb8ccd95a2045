-- Elements of a list after a part of it is overwritten.
use Rattle.std.proofs.Common.{◌≡◌, ◌⊎◌, inl, inr, ℕ, ◌+◌, ◌-◌, ◌<◌, ◌≤◌, List, ◌++◌, length, take, drop, get_or, ap, ◌∙◌, arith, length-take}
use Rattle.std.proofs.lemmas.List.{get_or_append_left, get_or-append_right, get_or-take, get_or-drop}
use borrow.Rule.Slice.PartMut.{post_of, put_mid}

module _ {X : Type 0} (a k : ℕ) (old new : List X) (d : X) (inside : a + k ≤ length old) (whole : length new ≡ k) where
  length-front : length (take a old) ≡ a
  length-front = length-take a old ∙ omega arith

  pub written_here : (n : ℕ) → a ≤ n → n < a + k → get_or (put_mid a k old new) n d ≡ get_or new (n - a) d
  written_here n low high =
      get_or-append_right (take a old) (new ++ post_of a k old) a n d length-front low
      ∙ get_or_append_left new (post_of a k old) d (n - a) (omega arith)

  pub kept_elsewhere : (n : ℕ) → (n < a) ⊎ (a + k ≤ n) → get_or (put_mid a k old new) n d ≡ get_or old n d
  kept_elsewhere n (inl before) =
      get_or_append_left (take a old) (new ++ post_of a k old) d n (omega (arith, length-front))
      ∙ get_or-take a old n d before
  kept_elsewhere n (inr behind) =
      let place : a + (k + (n - a - k)) ≡ n = omega arith in
      get_or-append_right (take a old) (new ++ post_of a k old) a n d length-front (omega arith)
      ∙ get_or-append_right new (post_of a k old) k (n - a) d whole (omega arith)
      ∙ get_or-drop k (drop a old) (n - a - k) d
      ∙ get_or-drop a old (k + (n - a - k)) d
      ∙ ap (λ m. get_or old m d) place

-- an element of a part
pub get_or-part : {X : Type 0} (a k n : ℕ) (xs : List X) (d : X) → n < k
    → get_or (take k (drop a xs)) n d ≡ get_or xs (a + n) d
get_or-part a k n xs d below = get_or-take k (drop a xs) n d below ∙ get_or-drop a xs n d
