-- Groups of given entries that new entries share.
use Rattle.std.specs.Prelude.{◌≡◌, ℕ, ◌-◌, ◌&&◌, nat_eq, Bool, true, List, [], ◌∷◌, Option, None, Some, if◌then◌else◌, length, map, slice_get, take, ⊤}
use Rattle.std.specs.Cmp.Lexicographic.{pointwise}
use Rattle.std.specs.List.{list_any, position_or_len}
use Rattle.indexmap.specs.IndexSet.{insert_all}
use Rattle.lineage.specs.Played.{numbers_of, play_together}
use Rattle.lineage.specs.declared.shared.Group.{Group}
use Rattle.lineage.specs.declared.shared.Grouped.{Grouped}
use Rattle.lineage.specs.declared.shared.GroupedEntry.{GroupedEntry}
use Rattle.lineage.specs.declared.played.Played.{Played}

-- The maximum number of entry numbers stored in a group.
abbrev pub most_named : ℕ
most_named = 1000

-- A group: the first numbers, and the number of further ones.
abbrev pub Shown : Type 0
Shown = List ℕ × ℕ

-- The group of these entry numbers.
abbrev pub shown : List ℕ → Shown
shown numbers = (take most_named numbers, length numbers - most_named)

-- The group that a Rattle value represents.
abbrev pub seen : Group → Shown
seen group = (group.given.items, group.more)

-- The group of the given entries that play together with an entry.
abbrev pub group_of : List Played → Played → Shown
group_of given entry = shown (numbers_of given entry)

-- The number of an entry, if it plays together with this one.
abbrev pub number_of : Played → Played → List ℕ
number_of entry other = if play_together entry other then other.number ∷ [] else []

-- Equality of groups.
abbrev pub is_same : Shown → Shown → Bool
is_same a b = pointwise nat_eq a.0 b.0 && nat_eq a.1 b.1

-- The distinct groups of entries, in order of first occurrence.
abbrev pub groups_of : List Played → List Played → List Shown
groups_of given entries = insert_all is_same [] (map (group_of given) entries)

-- The position of a group, from 0.
abbrev pub position_in : List Shown → Shown → ℕ
position_in groups group = position_or_len (is_same group) groups

-- An entry with the position of its group.
abbrev pub grouped_in : List Shown → List Played → Played → GroupedEntry
grouped_in groups given entry = record { number = entry.number; group = position_in groups (group_of given entry) }

-- The groups that a Rattle value represents.
abbrev pub shown_in : Grouped → List Shown
shown_in grouped = map seen grouped.groups.keys

-- The groups of these entries, with the position of each entry's group.
pub record IsGrouped (given entries : List Played) (grouped : Grouped) : Type 0 where
  pub groups_are : shown_in grouped ≡ groups_of given entries
  pub entries_are : grouped.entries.items ≡ map (grouped_in (groups_of given entries) given) entries

-- The group of an entry exists and has this position.
pub record IsAgain (given : List Played) (grouped : Grouped) (entry : Played) (position : ℕ) : Type 0 where
  pub there : list_any (is_same (group_of given entry)) (shown_in grouped) ≡ true
  pub is_position : position ≡ position_in (shown_in grouped) (group_of given entry)

-- The last entry, if it is this one, has the position of its group.
abbrev pub EndsWith : List Played → Option Played → Grouped → Type 0
EndsWith given None grouped = ⊤
EndsWith given (Some last) grouped = (entry : GroupedEntry)
    → slice_get grouped.entries.items (length grouped.entries.items - 1) ≡ Some entry
    → IsAgain given grouped last entry.group
