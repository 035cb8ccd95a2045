-- A project as an AES31-3 audio decision list spells it: header, sources and events.
use Rattle.std.specs.Prelude.{ℕ, List, Option}
use Rattle.sound_terms.specs.declared.Event.{Event}
use Rattle.list_terms.specs.declared.Notice.{Notice}

-- The five header sections whose lines are kept verbatim.
pub record Header : Type 0 where
  pub version : Option (List (List ℕ))
  pub project : Option (List (List ℕ))
  pub system : Option (List (List ℕ))
  pub sequence : Option (List (List ℕ))
  pub track_list : Option (List (List ℕ))

-- A line of SOURCE_INDEX: the URL of the file, and the time of its first sample if the list gives it. Times and
-- lengths are in samples.
pub record Source : Type 0 where
  pub number : ℕ
  pub url : List ℕ
  pub uid : List ℕ
  pub start : Option ℕ
  pub length : Option ℕ

-- A whole project at a frame rate; sources and events are in line order.
pub record ListProject : Type 0 where
  pub header : Header
  pub rate : ℕ
  pub sources : List Source
  pub events : List Event
  pub separators : List ℕ
  pub notices : List Notice
