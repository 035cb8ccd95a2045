-- The homes of files according to the indexes seen so far.
use Rattle.std.specs.Prelude.{◌≡◌, ℕ, ◌<◌, nat_le, List, length, Option, None, Some, if◌then◌else◌, slice_index_or}
use Rattle.sound_terms.specs.declared.BoundIndex.{BoundIndex}
use Rattle.sound_terms.specs.declared.piece.Home.{Home}
use Rattle.list_terms.specs.BoundHomes.{home_from}

-- The home so far, or a later one with a smaller base.
abbrev pub least_so_far : Option Home → Home → Home
least_so_far None later = later
least_so_far (Some home) later = if nat_le home.base later.base then home else later

-- Each file has its home according to these indexes.
abbrev pub AreLeast : List (Option Home) → List BoundIndex → Type 0
AreLeast homes indexes = (file : ℕ) → file < length homes → slice_index_or homes file None ≡ home_from 0 indexes file
