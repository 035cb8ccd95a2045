-- Lists whose items all pass a test or have a property.
use Rattle.std.specs.Prelude.{◌≡◌, ℕ, Bool, true, List, [], ◌∷◌, ◌++◌, Some, refl}
use Rattle.std.specs.List.{All, flat_map, list_all, slice_get}
use Rattle.std.proofs.Common.{subst}
use Rattle.std.proofs.lemmas.List.Elements.{All-append, All-cons, All-get_or, All-head, All-nil, All-tail}
use Rattle.std.proofs.lemmas.Option.{get_or_from_slice_get, slice_get_within}
use Rattle.facts.specs.Tests.{and_left, and_right}

pub all_push :
    {X : Type 0} (test : X → Bool) (xs : List X) (x : X) → list_all test xs ≡ true → test x ≡ true
    → list_all test (xs ++ x ∷ []) ≡ true
all_push test [] x h k = rw k refl
all_push test (y ∷ xs) x h k =
    rw (and_left (test y) (list_all test xs) h) (all_push test xs x (and_right (test y) (list_all test xs) h) k)

-- a property of all items of two joined lists holds for the items of each
pub all_front : {X : Type 0} (P : X → Type 0) (xs ys : List X) → All P (xs ++ ys) → All P xs
all_front P [] ys all = All-nil P
all_front P (x ∷ xs) ys all =
    All-cons P x xs (All-head P x (xs ++ ys) all) (all_front P xs ys (All-tail P x (xs ++ ys) all))

pub all_behind : {X : Type 0} (P : X → Type 0) (xs ys : List X) → All P (xs ++ ys) → All P ys
all_behind P [] ys all = all
all_behind P (x ∷ xs) ys all = all_behind P xs ys (All-tail P x (xs ++ ys) all)

-- a property of all items holds for the item at an index
pub holds_there :
    {X : Type 0} (P : X → Type 0) (xs : List X) (i : ℕ) (x : X) → All P xs → slice_get xs i ≡ Some x → P x
holds_there P xs i x all there =
    subst P (get_or_from_slice_get xs i x x there) (All-get_or P xs i x (slice_get_within xs i x there) all)

-- a property of all parts holds for the joined parts
pub all_of_parts :
    {X A : Type 0} (Q : X → Type 0) (P : A → Type 0) (f : X → List A) → ((x : X) → Q x → All P (f x)) → (xs : List X)
    → All Q xs → All P (flat_map f xs)
all_of_parts Q P f each [] all = All-nil P
all_of_parts Q P f each (x ∷ xs) all =
    All-append P (f x) (flat_map f xs) (each x (All-head Q x xs all)) (all_of_parts Q P f each xs (All-tail Q x xs all))
