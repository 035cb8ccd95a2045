-- One element of a list of parts, between those before and after it.
use Rattle.std.proofs.Common.{◌≡◌, ℕ, ◌+◌, ◌<◌, List, [], ◌∷◌, ◌++◌, length, take, drop, get_or, sym, ap, ◌∙◌, append_assoc}
use Rattle.std.specs.Prelude.{flat_map}
use Rattle.std.proofs.lemmas.Grind.{flat_map-append}
use Rattle.std.proofs.lemmas.List.{flat_map_more, take-append-drop, take_more}

module _ {X : Type 0} (part : X → List ℕ) (xs : List X) (i : ℕ) {x : X} (d : X) (below : i < length xs)
    (is : x ≡ get_or xs i d) where
  -- the parts up to and including this one
  pub one_more : flat_map part (take i xs) ++ part x ≡ flat_map part (take (i + 1) xs)
  one_more =
      flat_map_more part [] (take i xs) x ∙ ap (λ y. flat_map part (take i xs ++ y ∷ [])) is
      ∙ ap (flat_map part) (sym (take_more xs i d below))

  -- the parts up to this one and all after it
  pub all_but : flat_map part (take i xs) ++ (part x ++ flat_map part (drop (i + 1) xs)) ≡ flat_map part xs
  all_but =
      sym (append_assoc (flat_map part (take i xs)) (part x) (flat_map part (drop (i + 1) xs)))
      ∙ ap (λ t. t ++ flat_map part (drop (i + 1) xs)) one_more
      ∙ sym (flat_map-append part (take (i + 1) xs) (drop (i + 1) xs))
      ∙ ap (flat_map part) (take-append-drop (i + 1) xs)
