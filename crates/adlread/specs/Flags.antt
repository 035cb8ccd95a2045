-- The set of used numbers, as one flag for each number below 32768.
use Rattle.std.specs.Prelude.{◌≡◌, ℕ, ◌<◌, ◌==◌, Bool, false, List, slice_index_or}
use Rattle.std.specs.List.{list_any}

-- The flags of the numbers of these items.
abbrev pub AreFlags : {X : Type 0} → (X → ℕ) → List X → List Bool → Type 0
AreFlags number_of items flags =
    (n : ℕ) → n < 32768 → slice_index_or flags n false ≡ list_any (λ item. number_of item == n) items
