-- The sound of an entry without a fault as the pieces of one group, and of several entries as their groups.
use Rattle.std.specs.Prelude.{◌≡◌, ℕ, ◌≤◌, true, List, length, All}
use Rattle.std.specs.List.{list_all}
use Rattle.sound_terms.specs.declared.Event.{Event}
use Rattle.sound_terms.specs.declared.piece.Piece.{Piece}
use Rattle.sound_terms.specs.Mix.{Reading, contribution_of, mix_at}
use Rattle.sound_terms.specs.Groups.{IsGroup, IsPiece, are_whole, holding, is_whole, mix_of, pieces_of, sum_of}
use Rattle.sound_terms.specs.Entries.{groups_in_turn}
use Rattle.list_terms.specs.Binding.{Binding}
use Rattle.list_terms.specs.BoundHomes.{homes_of}
use Rattle.list_terms.specs.Heard.{sounds_of}
use Rattle.interval.specs.AtHome.{IsAtHome}

-- The pieces of an entry: together they contribute the same as the entry, have whole fades, are within the file,
-- and never overlap.
pub record SoundsAs (binding : Binding) (event : Event) (parts : List Piece) : Type 0 where
  pub mix : (reading : Reading) (channel time : ℕ)
      → sum_of reading parts channel time ≡ contribution_of reading binding.indexes event channel time
  pub whole : list_all is_whole parts ≡ true
  pub lies : All (IsAtHome (sounds_of binding) (homes_of binding)) parts
  pub once : (time : ℕ) → holding time parts ≤ 1

-- Groups of pieces that are well formed.
pub record AreFormed (groups : List (List Piece)) : Type 0 where
  pub groups_ok : All IsGroup groups
  pub pieces_ok : All (All IsPiece) groups

-- The groups of these entries.
pub record SoundAs (binding : Binding) (events : List Event) (groups : List (List Piece)) : Type 0 where
  pub turn : groups ≡ groups_in_turn binding.indexes events
  pub mix : (reading : Reading) (channel time : ℕ)
      → mix_of reading groups channel time ≡ mix_at reading binding.indexes events channel time
  pub whole : are_whole groups ≡ true
  pub lie : All (IsAtHome (sounds_of binding) (homes_of binding)) (pieces_of groups)
  pub few : (time : ℕ) → holding time (pieces_of groups) ≤ length events
