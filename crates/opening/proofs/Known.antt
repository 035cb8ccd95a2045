-- Paths known after one more file was named.
use Rattle.std.proofs.Common.{◌≡◌, ◌∙◌, ◌∷◌, ◌++◌, [], ℕ, List, Bool, true, false, Option, None, Some, String, string_bytes, ap, cond, option_map, refl, sym}
use Rattle.std.specs.BTreeMap.{BTreeMap, UpdatesBy, get_by_text}
use Rattle.std.specs.String.{string_cmp}
use Rattle.std.specs.Str.{bytes_eq}
use Rattle.std.specs.Ordering.{nat_cmp}
use Rattle.std.specs.Cmp.Lexicographic.{slice_cmp}
use Rattle.std.specs.List.{find}
use Rattle.std.specs.Option.{option_or}
use Rattle.std.specs.Global.{Global}
use Rattle.std.proofs.lemmas.Map.Text.{btree_map_updates_text}
use Rattle.std.proofs.lemmas.List.Folds.{find-append}
use Rattle.std.proofs.lemmas.Slice.Eq.{bytes_eq-Decides}
use Rattle.list_terms.specs.Names.{Place}
use Rattle.opening.specs.Paths.{path_among}

-- the path of a name among locations with one more at the end
path_further : (name : List ℕ) (places : List Place) (place : Place)
    → path_among name (places ++ place ∷ [])
    ≡ option_or (path_among name places) (cond (bytes_eq place.name name) (Some place.path) None)
path_further name places place =
    ap (option_map (λ p. p.path)) (find-append (λ p. bytes_eq p.name name) places (place ∷ []))
    ∙ by_first (find (λ p. bytes_eq p.name name) places) (bytes_eq place.name name)
  where
    by_first : (found : Option Place) (is : Bool)
        → option_map (λ (p : Place). p.path) (option_or found (cond is (Some place) None))
        ≡ option_or (option_map (λ (p : Place). p.path) found) (cond is (Some place.path) None)
    by_first None true = refl
    by_first None false = refl
    by_first (Some p) is = refl

-- a location with a known name changes nothing
pub knows_again : (known : List ℕ → Option (List ℕ)) (places : List Place) (place : Place) (path : List ℕ)
    → ((name : List ℕ) → known name ≡ path_among name places) → known place.name ≡ Some path
    → (name : List ℕ) → known name ≡ path_among name (places ++ place ∷ [])
knows_again known places place path knows is name =
    knows name ∙ by_name (bytes_eq place.name name) refl ∙ sym (path_further name places place)
  where
    by_path : (found : Option (List ℕ)) (b : Bool) → found ≡ Some path
        → found ≡ option_or found (cond b (Some place.path) None)
    by_path (Some p) b e = refl
    by_path None b e = absurd (cc)

    by_none : (found : Option (List ℕ)) → found ≡ option_or found None
    by_none (Some p) = refl
    by_none None = refl

    by_name : (b : Bool) → bytes_eq place.name name ≡ b
        → path_among name places
        ≡ option_or (path_among name places) (cond (bytes_eq place.name name) (Some place.path) None)
    by_name true e =
        let same : place.name ≡ name = (bytes_eq-Decides place.name name).0 e in
        by_path (path_among name places) _ (sym (knows name) ∙ ap known (sym same) ∙ is)
    by_name false e = rw e (by_none (path_among name places))

-- a location with a new name adds its path
pub knows_more : (old new : BTreeMap (String Global) (List ℕ)) (places : List Place) (place : Place)
    → ((name : List ℕ) → get_by_text old name ≡ path_among name places) → get_by_text old place.name ≡ None
    → UpdatesBy string_cmp (λ k. slice_cmp nat_cmp place.name (string_bytes k)) old new (Some place.path)
    → (name : List ℕ) → get_by_text new name ≡ path_among name (places ++ place ∷ [])
knows_more old new places place knows missing updates name =
    btree_map_updates_text place.name old new (Some place.path) updates name
    ∙ by_name (bytes_eq place.name name) refl ∙ sym (path_further name places place)
  where
    by_none : (found : Option (List ℕ)) → found ≡ option_or found None
    by_none (Some p) = refl
    by_none None = refl

    by_name : (b : Bool) → bytes_eq place.name name ≡ b
        → cond (bytes_eq place.name name) (Some place.path) (get_by_text old name)
        ≡ option_or (path_among name places) (cond (bytes_eq place.name name) (Some place.path) None)
    by_name true e =
        let same : place.name ≡ name = (bytes_eq-Decides place.name name).0 e in
        let none : path_among name places ≡ None = sym (knows name) ∙ ap (get_by_text old) (sym same) ∙ missing in
        rw (e, none) refl
    by_name false e = rw e (knows name ∙ by_none (path_among name places))
