-- Runs of kept sample frames with the homes of their files, for which media are made.
use Rattle.std.specs.Prelude.{◌≡◌, ◌⊎◌, ℕ, ◌+◌, ◌<◌, ◌≤◌, List, All, Some, length, slice_get}
use Rattle.sampletime.specs.TimeCode.{day}
use Rattle.sound_terms.specs.declared.piece.Home.{Home}
use Rattle.sound_terms.specs.declared.piece.Run.{Run}
use Rattle.sound_terms.specs.Homes.{AreHomes, base_by, place_by}

-- The order of runs: by the positions of their home indexes; in one file, the earlier run ends before the later one
-- begins.
abbrev pub EndsBefore : (ℕ → ℕ) → Run → Run → Type 0
EndsBefore place a b =
    (place a.file < place b.file) ⊎ ((a.file ≡ b.file) × (a.first + a.length ≤ b.first))

-- Runs in this order, without common sample frames.
abbrev pub AreApart : (ℕ → ℕ) → List Run → Type 0
AreApart place runs =
    (i j : ℕ) (a b : Run) → i < j → slice_get runs i ≡ Some a → slice_get runs j ≡ Some b → EndsBefore place a b

-- The run ends before the end of the day.
abbrev pub EndsInDay : List Home → Run → Type 0
EndsInDay homes run = (base_by homes run.file + run.first) + run.length ≤ day

-- Runs and the homes of their files.
pub record HomedRuns : Type 0 where
  pub homes : List Home
  pub runs : List Run

-- Runs combined with homes.
abbrev pub homed : List Home → List Run → HomedRuns
homed homes runs = record { homes = homes; runs = runs }

-- Each run can have an index of a list: there are few enough, they are disjoint, and they end before the end of the
-- day.
pub record AreIndexable (kept : HomedRuns) : Type 0 where
  pub homes_ok : AreHomes kept.homes
  pub few : length kept.runs ≤ 32767
  pub apart : AreApart (place_by kept.homes) kept.runs
  pub in_day : All (EndsInDay kept.homes) kept.runs
