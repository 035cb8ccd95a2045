-- Invariants of the state of reading.
use Rattle.std.specs.Prelude.{◌≡◌, ℕ, ◌≤◌, true, List, [], None, Ok, IsTrue, codes, is_some, ⊤}
use Rattle.std.specs.List.{list_all}
use Rattle.list_terms.specs.declared.Section.TheVariants as section
use Rattle.list_terms.specs.declared.Stage.{Stage}
use Rattle.list_terms.specs.declared.Stage.TheVariants as stage
use Rattle.list_terms.specs.Text.{Context, HeaderRead, all_events, section_of}
use Rattle.list_terms.specs.WholeProject.{are_kept, has_whole_texts, is_system_line, line_count, lines_of_section, no_rates, told_rates}

-- The open section is the one that its name selects.
abbrev pub IsOpen : Stage → List ℕ → Type 0
IsOpen stage.Before name = ⊤
IsOpen stage.Outside name = ⊤
IsOpen (stage.Inside section) name = section_of name ≡ section
IsOpen stage.Behind name = ⊤

module _ (rate : ℕ) where
  -- The invariants of the header so far: no more lines than counted, and the rates that SEQUENCE has given.
  pub record IsHeaderSoFar (header : HeaderRead) : Type 0 where
    pub version : IsTrue (are_kept (codes "VERSION") header.lines.version)
    pub project : IsTrue (are_kept (codes "PROJECT") header.lines.project)
    pub system : IsTrue (are_kept (codes "SYSTEM") header.lines.system)
    pub sequence : IsTrue (are_kept (codes "SEQUENCE") header.lines.sequence)
    pub track_list : IsTrue (are_kept (codes "TRACKLIST") header.lines.track_list)
    pub settings : IsTrue (list_all (is_system_line rate) (lines_of_section header.lines.system))
    pub rates : told_rates rate no_rates (lines_of_section header.lines.sequence) ≡ Ok header.rates
    pub counted : line_count header.lines ≤ header.kept
    pub few : header.kept ≤ 65535

  -- The invariants of the state of reading.
  pub record IsSoFar (c : Context) : Type 0 where
    pub name : IsOpen c.stage c.name
    pub in_sequence : c.stage ≡ stage.Inside section.Sequence → is_some c.header.lines.sequence ≡ true
    pub header : IsHeaderSoFar c.header
    pub texts : IsTrue (list_all has_whole_texts c.sources)
    pub standard : all_events c.entries.events c.entries.entry ≡ [] → c.entries.separators ≡ None
