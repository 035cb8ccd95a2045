-- The line on which an entry plays its file.
use Rattle.std.specs.Prelude.{◌≡◌, ℕ, ◌+◌, ◌-◌, ◌*◌, ◌^◌, List}
use Rattle.lineage.specs.Played.{numbers_of}
use Rattle.lineage.specs.declared.played.Played.{Played}

-- The line of an entry: its file, and its position in the file minus its start time. Entries that play together
-- have the same line.
abbrev pub line_of : Played → ℕ
line_of entry = entry.file * 2 ^ 66 + (entry.frame + 2 ^ 64 - entry.start)

-- Two lists from which every entry gets the same numbers, in the same order.
abbrev pub PlayAlike : (entries others : List Played) → Type 0
PlayAlike entries others = (entry : Played) → numbers_of entries entry ≡ numbers_of others entry
