-- The table of the positions of bound indexes, by number.
use Rattle.std.specs.Prelude.{◌≡◌, ℕ, ◌<◌, ◌==◌, List, length, Option, None, position, slice_index_or}
use Rattle.sound_terms.specs.declared.BoundIndex.{BoundIndex}

-- The position of the first index with this number.
abbrev pub place_of : List BoundIndex → ℕ → Option ℕ
place_of indexes number = position (λ index. index.number == number) indexes

-- The table has the position of each number below its length.
abbrev pub ArePlaces : List BoundIndex → List (Option ℕ) → Type 0
ArePlaces indexes places = (n : ℕ) → n < length places → slice_index_or places n None ≡ place_of indexes n
