-- A line that doesn't close the open section doesn't close the section under its standard name.
use Rattle.std.proofs.Common.{◌≡◌, ℕ, Bool, true, false, List, [], ◌∷◌, Option, None, Some, refl, subst}
use Rattle.std.specs.Prelude.{codes, if◌then◌else◌}
use Rattle.std.specs.Str.{str_to_ascii_lowercase}
use Rattle.std.proofs.lemmas.Slice.Eq.{bytes_eq-Decides}
use Rattle.list_terms.specs.declared.Section.{Section}
use Rattle.list_terms.specs.declared.Section.TheVariants as section
use Rattle.list_terms.specs.Fields.{is_same_name}
use Rattle.list_terms.specs.Text.{is_end, is_unsupported, section_of, tag_of}

-- The section that these tests select.
abbrev chosen : (a b c d e f g h : Bool) → Section
chosen a b c d e f g h =
    if a then section.Version else if b then section.Project else if c then section.System else if d
    then section.Sequence
    else if e then section.TrackList else if f then section.SourceIndex else if g then section.EventList
    else if h then section.Unsupported else section.Skipped

-- The test that selects a header section.
abbrev pub Passed : (a b c d e : Bool) → Section → Type 0
Passed a b c d e section.Version = a ≡ true
Passed a b c d e section.Project = b ≡ true
Passed a b c d e section.System = c ≡ true
Passed a b c d e section.Sequence = d ≡ true
Passed a b c d e section.TrackList = e ≡ true
Passed a b c d e section.SourceIndex = Unit {0}
Passed a b c d e section.EventList = Unit {0}
Passed a b c d e section.Skipped = Unit {0}
Passed a b c d e section.Unsupported = Unit {0}

passed : (a b c d e f g h : Bool) → Passed a b c d e (chosen a b c d e f g h)
passed true b c d e f g h = refl
passed false true c d e f g h = refl
passed false false true d e f g h = refl
passed false false false true e f g h = refl
passed false false false false true f g h = refl
passed false false false false false true g h = tt
passed false false false false false false true h = tt
passed false false false false false false false true = tt
passed false false false false false false false false = tt

abbrev pub PassedBy : List ℕ → Section → Type 0
PassedBy name =
    Passed (is_same_name name (codes "VERSION")) (is_same_name name (codes "PROJECT"))
    (is_same_name name (codes "SYSTEM"))
    (is_same_name name (codes "SEQUENCE")) (is_same_name name (codes "TRACKLIST"))

passed_by_name : (name : List ℕ) → PassedBy name (section_of name)
unfolding section_of
passed_by_name name =
    passed (is_same_name name (codes "VERSION")) (is_same_name name (codes "PROJECT"))
    (is_same_name name (codes "SYSTEM"))
    (is_same_name name (codes "SEQUENCE")) (is_same_name name (codes "TRACKLIST"))
    (is_same_name name (codes "SOURCE_INDEX"))
    (is_same_name name (codes "EVENT_LIST")) (is_unsupported name)

pub passed_as : (name : List ℕ) (s : Section) → section_of name ≡ s → PassedBy name s
passed_as name s e = subst (PassedBy name) e (passed_by_name name)

pub is_end-same : (name other text : List ℕ) → is_same_name name other ≡ true → is_end name text ≡ is_end other text
is_end-same name other text h = by_tag (tag_of text) refl where
  same : str_to_ascii_lowercase name ≡ str_to_ascii_lowercase other
  same = (bytes_eq-Decides (str_to_ascii_lowercase name) (str_to_ascii_lowercase other)).0 h

  by_tag : (tag : Option (List ℕ)) → tag_of text ≡ tag → is_end name text ≡ is_end other text
  by_tag None t = rw t refl
  by_tag (Some []) t = rw t refl
  by_tag (Some (b ∷ rest)) t = rw (t, same) refl
