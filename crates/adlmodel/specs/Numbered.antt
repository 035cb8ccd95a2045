-- Lookup of sources by number.
use Rattle.std.specs.Prelude.{ℕ, ◌==◌, List, [], ◌∷◌, Option, None, Some, if◌then◌else◌}
use Rattle.list_terms.specs.Project.{Source}

-- The first source with this number.
abbrev pub source_of : List Source → ℕ → Option Source
source_of [] number = None
source_of (source ∷ sources) number = if source.number == number then Some source else source_of sources number
