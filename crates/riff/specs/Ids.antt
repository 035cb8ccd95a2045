-- Chunk ids.
use Rattle.std.specs.Prelude.{◌≡◌, ℕ, ◌<◌, List, length, All}

-- the id has four bytes
pub record IsId (id : List ℕ) : Type 0 where
  pub four : length id ≡ 4
  pub bytes : All (λ b. b < 256) id
