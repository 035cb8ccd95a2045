-- The remaining faults after a line that is read, and after a faulty line.
use Rattle.std.proofs.Common.{◌≡◌, ℕ, ◌+◌, ◌<◌, ◌≤◌, Bool, true, false, List, [], ◌∷◌, Option, None, Some, Result, Ok, Err, refl, ap, sym, subst, ◌∙◌, arith}
use Rattle.std.specs.Prelude.{◌==◌, ◌&&◌, ◌||◌, codes, length, not, max, nat_le, is_some, if◌then◌else◌, ⊤}
use Rattle.std.proofs.lemmas.Bool.{false_from_ne_true}
use Rattle.std.proofs.lemmas.Bool.Decides.{nat_tests}
use Rattle.work_terms.specs.Refusals.{Refusal}
use Rattle.list_terms.specs.declared.OpenEntry.{OpenEntry}
use Rattle.list_terms.specs.declared.Section.{Section}
use Rattle.list_terms.specs.declared.Section.TheVariants as section
use Rattle.list_terms.specs.declared.Stage.{Stage}
use Rattle.list_terms.specs.declared.Stage.TheVariants as stage
use Rattle.list_terms.specs.declared.TextFault.{TextFault}
use Rattle.list_terms.specs.declared.TextFault.TheVariants as fault
use Rattle.list_terms.specs.EntryLines.{sequence_line, system_line}
use Rattle.list_terms.specs.Fields.{is_keyword}
use Rattle.list_terms.specs.Forms.{Number, reads_line, value_at}
use Rattle.list_terms.specs.Project.{ListProject}
use Rattle.list_terms.specs.Steps.{◌>>=◌, err_map, ok_map}
use Rattle.list_terms.specs.Text.{Context, LocatedFault, at_entry, at_index, at_line, at_open, before_list, dropped_line, entry_line, finished, further_line, in_event_list, in_header, in_section, in_source_index, in_unsupported, index_line, is_behind, is_end, is_list_begin, is_tag, is_opened, keep, kept_line, location_in, opened, opened_name, outside, project_of, rates_with, read_from, section_of, text_refusal, untagged, with_line, with_section}
use Rattle.list_terms.specs.Tokens.{Cut, token_at, trimmed}
use Rattle.adlread.specs.Fault.{line_of_location}
use Rattle.adlread.specs.Further.{AreFaults, Last, More, Spelled, behind_emptied, is_of_its_own, left, opens_entry, without, without_entry}

-- ---- a property of a fault, if there is one

module _ (P : LocatedFault → Type 0) where
  abbrev Faulty : {X : Type 0} → Result X LocatedFault → Type 0
  Faulty (Ok x) = ⊤
  Faulty (Err f) = P f

  faulty_test : {X : Type 0} (test : Bool) (a b : Result X LocatedFault) → Faulty a → Faulty b → Faulty (if test then a else b)
  faulty_test true a b h g = h
  faulty_test false a b h g = g

  faulty_map : {X : Type 0} (g : TextFault → LocatedFault) (r : Result X TextFault) → ((f : TextFault) → P (g f)) → Faulty (err_map g r)
  faulty_map g (Ok x) h = tt
  faulty_map g (Err f) h = h f

  faulty_chain :
      {X Y : Type 0} (r : Result X LocatedFault) (next : X → Result Y LocatedFault) → Faulty r
      → ((x : X) → Faulty (next x)) → Faulty (r >>= next)
  faulty_chain (Ok x) next h g = g x
  faulty_chain (Err f) next h g = h

  faulty_at : {X : Type 0} (r : Result X LocatedFault) (f : LocatedFault) → r ≡ Err f → Faulty r → P f
  faulty_at {X = X} r f e h = subst (λ (s : Result X LocatedFault). Faulty s) e h

  err_at : {X : Type 0} (g f : LocatedFault) → ◌≡◌ {A = Result X LocatedFault} (Err g) (Err f) → P g → P f
  err_at g f e h = let one : g ≡ f = cc in subst P one h

  before_faulty :
      (c : Context) (m : ℕ) (text : List ℕ) → P (at_line m fault.SectionMismatch) → Faulty (before_list c m text)
  unfolding before_list
  before_faulty c m text h =
      faulty_test {X = Context} (length text == 0) (Ok c)
      (if is_list_begin text then Ok (record c { stage = stage.Outside }) else Err (at_line m fault.SectionMismatch)) tt
      (faulty_test {X = Context} (is_list_begin text) (Ok (record c { stage = stage.Outside }))
      (Err (at_line m fault.SectionMismatch)) tt h)

  opened_faulty :
      (c : Context) (m : ℕ) (name : List ℕ) → P (at_line m fault.RepeatedSection) → Faulty (opened c m name)
  unfolding opened
  opened_faulty c m name h =
      faulty_test {X = Context} (is_opened c (section_of name)) (Err (at_line m fault.RepeatedSection))
      (Ok (record (with_section c m (section_of name)) { stage = stage.Inside (section_of name); name = name })) h tt

  outside_faulty :
      (c : Context) (m : ℕ) (text : List ℕ) → P (at_line m fault.SectionMismatch)
      → P (at_line m fault.RepeatedSection) → Faulty (outside c m text)
  unfolding outside
  outside_faulty c m text h g = by_tests (length text == 0) (is_end (codes "ADL") text) (opened_name text) where
    of_name : Option (List ℕ) → Result Context LocatedFault
    of_name None = Err (at_line m fault.SectionMismatch)
    of_name (Some name) = opened c m name

    by_tests :
        (blank ends : Bool) (name : Option (List ℕ))
        → Faulty (if blank then Ok c else if ends then Ok (record c { stage = stage.Behind }) else of_name name)
    by_tests true ends name = tt
    by_tests false true name = tt
    by_tests false false None = h
    by_tests false false (Some name) = opened_faulty c m name g

-- ---- the line of a fault

abbrev IsAtLine : ℕ → LocatedFault → Type 0
IsAtLine line f = line_of_location f.location ≡ line

open_line : (line : ℕ) (entry : Option OpenEntry) → line_of_location (location_in line entry) ≡ line
open_line line None = refl
open_line line (Some entry) = refl

module _ (rate : ℕ) where
  source_line_at : (c : Context) (m : ℕ) (text : List ℕ) → Faulty (IsAtLine m) (in_source_index rate c m text)
  unfolding in_source_index index_line dropped_line
  source_line_at c m text =
      faulty_chain (IsAtLine m) (err_map (at_line m) (untagged text (token_at text))) _
      (faulty_map (IsAtLine m) (at_line m) (untagged text (token_at text)) (λ _. refl)) by_token where
        by_token : (found : Option Cut) → Faulty (IsAtLine m) (elim found as (λ _. Result Context LocatedFault) [
          | None ↦ Ok c
          | Some (token, rest) ↦ if is_keyword (codes "Index") token then index_line rate c m rest else dropped_line c m rest
        ])
        by_token None = tt
        by_token (Some (token, rest)) =
            faulty_test (IsAtLine m) (is_keyword (codes "Index") token) (index_line rate c m rest)
            (dropped_line c m rest)
            (faulty_chain (IsAtLine m) (err_map (at_line m) (value_at Number rest)) _
            (faulty_map (IsAtLine m) (at_line m) (value_at Number rest) (λ _. refl))
            (λ (number, more). faulty_map (IsAtLine m) (at_index m number) _ (λ _. refl)))
            (faulty_map (IsAtLine m) (at_line m) _ (λ _. refl))

  event_line_at : (c : Context) (m : ℕ) (text : List ℕ) → Faulty (IsAtLine m) (in_event_list rate c m text)
  unfolding in_event_list entry_line
  event_line_at c m text =
      faulty_test (IsAtLine m) (is_tag text) (Err (at_line m fault.SectionMismatch)) _ refl
      (faulty_chain (IsAtLine m) (err_map (at_open m c.entries.entry) (token_at text)) _
      (faulty_map (IsAtLine m) (at_open m c.entries.entry) (token_at text) (λ _. open_line m c.entries.entry)) by_token) where
        by_token : (found : Option Cut) → Faulty (IsAtLine m) (elim found as (λ _. Result Context LocatedFault) [
          | None ↦ Ok c
          | Some (token, rest) ↦ if is_keyword (codes "Entry") token then entry_line rate c m rest
              else err_map (at_open m c.entries.entry)
              (ok_map (λ entries. record c { entries = entries }) (further_line rate c.entries token rest))
        ])
        by_token None = tt
        by_token (Some (token, rest)) =
            faulty_test (IsAtLine m) (is_keyword (codes "Entry") token) (entry_line rate c m rest)
            (err_map (at_open m c.entries.entry)
            (ok_map (λ entries. record c { entries = entries }) (further_line rate c.entries token rest)))
            (faulty_chain (IsAtLine m) (err_map (at_line m) (value_at Number rest)) _
            (faulty_map (IsAtLine m) (at_line m) (value_at Number rest) (λ _. refl))
            (λ (number, more). faulty_map (IsAtLine m) (at_entry m number) _ (λ _. refl)))
            (faulty_map (IsAtLine m) (at_open m c.entries.entry) _ (λ _. open_line m c.entries.entry))

  header_line_at : (c : Context) (m : ℕ) (text : List ℕ) (s : Section) → Faulty (IsAtLine m) (in_header rate c m text s)
  unfolding in_header
  header_line_at c m text s = faulty_map (IsAtLine m) (at_line m) _ (λ _. refl)

  section_line_at : (c : Context) (m : ℕ) (text : List ℕ) (s : Section) → Faulty (IsAtLine m) (in_section rate c m text s)
  unfolding in_section in_unsupported
  section_line_at c m text section.Version = header_line_at c m text section.Version
  section_line_at c m text section.Project = header_line_at c m text section.Project
  section_line_at c m text section.System = header_line_at c m text section.System
  section_line_at c m text section.Sequence = header_line_at c m text section.Sequence
  section_line_at c m text section.TrackList = header_line_at c m text section.TrackList
  section_line_at c m text section.SourceIndex = source_line_at c m text
  section_line_at c m text section.EventList = event_line_at c m text
  section_line_at c m text section.Skipped = tt
  section_line_at c m text section.Unsupported =
      faulty_test (IsAtLine m) (length (trimmed text) == 0) (Ok c) (Err (at_line m fault.Unsupported)) tt refl

  -- The fault of a line is located at this line.
  line_at : (at : Stage) (c : Context) (m : ℕ) (text : List ℕ)
      → Faulty (IsAtLine m) (with_line rate (record c { stage = at }) m text)
  unfolding with_line
  line_at stage.Before c m text = before_faulty (IsAtLine m) (record c { stage = stage.Before }) m (trimmed text) refl
  line_at stage.Outside c m text =
      outside_faulty (IsAtLine m) (record c { stage = stage.Outside }) m (trimmed text) refl refl
  line_at (stage.Inside s) c m text =
      faulty_test (IsAtLine m) {X = Context} (is_end c.name (trimmed text)) (Ok (record c { stage = stage.Outside }))
      (in_section rate (record c { stage = stage.Inside s }) m text s) tt
      (section_line_at (record c { stage = stage.Inside s }) m text s)
  line_at stage.Behind c m text = tt

  -- ---- an empty line instead of a faulty one

  abbrev IsNotAlone : LocatedFault → Type 0
  IsNotAlone f = is_of_its_own f ≡ false

  -- A fault at the end of a list doesn't concern only one line.
  end_not_alone : (c : Context) (m : ℕ) → Faulty IsNotAlone (finished rate c m)
  unfolding finished
  end_not_alone c m =
      let lacks = not (c.header.rates.sample_rate && c.header.rates.frame_rate) in
      faulty_test IsNotAlone {X = ListProject} (not (is_some c.header.lines.sequence && c.has_index && c.has_events))
      (Err (at_line m fault.MissingSection))
      (if lacks then Err (at_line m fault.MissingSequence) else Ok (project_of rate c)) refl
      (faulty_test IsNotAlone {X = ListProject} lacks (Err (at_line m fault.MissingSequence)) (Ok (project_of rate c)) refl
      tt)

  -- An empty line can be read here, and the list continues.
  record TakesEmpty (c : Context) (m : ℕ) : Type 0 where
    next : Context
    reads : with_line rate c m [] ≡ Ok next
    goes_on : is_behind next.stage ≡ false

  alone : (f : LocatedFault) {X : Type 0} → is_of_its_own f ≡ true → is_of_its_own f ≡ false → X
  alone f own other = absurd (let no : true ≡ false = sym own ∙ other in cc)

  abbrev inside : Section → Context → Context
  inside s c = record c { stage = stage.Inside s }

  kept_empty :
      (s : Section) (c : Context) (m : ℕ) → nat_le 65535 c.header.kept ≡ false
      → rates_with rate s c.header.rates [] ≡ Ok c.header.rates
      → in_header rate (inside s c) m [] s ≡ Ok (record (inside s c) {
        header = record {
          lines = keep s [] c.header.lines;
          kept = c.header.kept + 1;
          rates = c.header.rates;
        };
      })
  unfolding in_header kept_line
  kept_empty s c m room says = rw (room, says) refl

  -- A header line is faulty by itself only if there is room for another line.
  has_room :
      (s : Section) (c : Context) (m : ℕ) (text : List ℕ) (f : LocatedFault)
      → in_header rate (inside s c) m text s ≡ Err f → is_of_its_own f ≡ true → nat_le 65535 c.header.kept ≡ false
  unfolding in_header kept_line
  has_room s c m text f e own = by_room (nat_le 65535 c.header.kept) refl where
    by_room : (full : Bool) → nat_le 65535 c.header.kept ≡ full → full ≡ false
    by_room true g =
        let same : ◌≡◌ {A = Result Context LocatedFault} (Err (at_line m fault.TooMany)) (Err f) = rw g at e in
        alone f own (err_at IsNotAlone {X = Context} (at_line m fault.TooMany) f same refl)
    by_room false g = refl

  abbrev SectionTakes : Section → Context → ℕ → Type 0
  SectionTakes s c m = (next : Context) × (in_section rate (inside s c) m [] s ≡ Ok next) × (is_behind next.stage ≡ false)

  section_takes :
      (s : Section) (c : Context) (m : ℕ) (text : List ℕ) (f : LocatedFault)
      → in_section rate (inside s c) m text s ≡ Err f → is_of_its_own f ≡ true → SectionTakes s c m
  unfolding in_section in_source_index in_event_list in_unsupported system_line sequence_line reads_line token_at
  section_takes section.Version c m text f e own =
      (_, kept_empty section.Version c m (has_room section.Version c m text f e own) refl, refl)
  section_takes section.Project c m text f e own =
      (_, kept_empty section.Project c m (has_room section.Project c m text f e own) refl, refl)
  section_takes section.System c m text f e own =
      (_, kept_empty section.System c m (has_room section.System c m text f e own) refl, refl)
  section_takes section.Sequence c m text f e own =
      (_, kept_empty section.Sequence c m (has_room section.Sequence c m text f e own) refl, refl)
  section_takes section.TrackList c m text f e own =
      (_, kept_empty section.TrackList c m (has_room section.TrackList c m text f e own) refl, refl)
  section_takes section.SourceIndex c m text f e own = (inside section.SourceIndex c, refl, refl)
  section_takes section.EventList c m text f e own = (inside section.EventList c, refl, refl)
  section_takes section.Skipped c m text f e own = (inside section.Skipped c, refl, refl)
  section_takes section.Unsupported c m text f e own = (inside section.Unsupported c, refl, refl)

  takes_empty :
      (at : Stage) (c : Context) (m : ℕ) (text : List ℕ) (f : LocatedFault)
      → with_line rate (record c { stage = at }) m text ≡ Err f → is_of_its_own f ≡ true
      → TakesEmpty (record c { stage = at }) m
  unfolding with_line
  takes_empty stage.Before c m text f e own =
      alone f own (faulty_at IsNotAlone (before_list (record c { stage = stage.Before }) m (trimmed text)) f e
      (before_faulty IsNotAlone (record c { stage = stage.Before }) m (trimmed text) refl))
  takes_empty stage.Outside c m text f e own =
      alone f own (faulty_at IsNotAlone (outside (record c { stage = stage.Outside }) m (trimmed text)) f e
      (outside_faulty IsNotAlone (record c { stage = stage.Outside }) m (trimmed text) refl refl))
  takes_empty (stage.Inside s) c m text f e own = by_end (is_end c.name (trimmed text)) refl where
    by_end : (ends : Bool) → is_end c.name (trimmed text) ≡ ends → TakesEmpty (inside s c) m
    by_end true g = absurd (let no : ◌≡◌ {A = Result Context LocatedFault} (Ok (record c { stage = stage.Outside })) (Err f) = rw g at e in cc)
    by_end false g =
        let (next, reads, on) = section_takes s c m text f (rw g at e) own in
        record { next = next; reads = reads; goes_on = on }
  takes_empty stage.Behind c m text f e own =
      absurd (let no : ◌≡◌ {A = Result Context LocatedFault} (Ok (record c { stage = stage.Behind })) (Err f) = e in cc)

  -- ---- one of the remaining lines

  err_first :
      (c : Context) (n : ℕ) (line : List ℕ) (lines : List (List ℕ)) (f : LocatedFault)
      → with_line rate c (n + 1) line ≡ Err f → read_from rate c n (line ∷ lines) ≡ Err f
  unfolding read_from
  err_first c n line lines f e = rw e refl

  ok_first :
      (c next : Context) (n : ℕ) (line : List ℕ) (lines : List (List ℕ)) → with_line rate c (n + 1) line ≡ Ok next
      → is_behind next.stage ≡ false → read_from rate c n (line ∷ lines) ≡ read_from rate next (n + 1) lines
  unfolding read_from
  ok_first c next n line lines e on = rw (e, on) refl

  ends_first :
      (c next : Context) (n : ℕ) (line : List ℕ) (lines : List (List ℕ)) → with_line rate c (n + 1) line ≡ Ok next
      → is_behind next.stage ≡ true → read_from rate c n (line ∷ lines) ≡ finished rate next (n + 1)
  unfolding read_from
  ends_first c next n line lines e behind = rw (e, behind) refl

  -- A fault of one line is after the lines that were read.
  is_later :
      (lines : List (List ℕ)) (c : Context) (n : ℕ) (f : LocatedFault) → read_from rate c n lines ≡ Err f
      → is_of_its_own f ≡ true → n < line_of_location f.location
  unfolding read_from
  is_later [] c n f e own =
      alone f own (err_at IsNotAlone {X = ListProject} (at_line (max n 1) fault.SectionMismatch) f e refl)
  is_later (line ∷ lines) c n f e own = by_line (with_line rate c (n + 1) line) refl (is_later lines) where
    by_line :
        (read : Result Context LocatedFault) → with_line rate c (n + 1) line ≡ read
        → ((c : Context) (n : ℕ) (f : LocatedFault) → read_from rate c n lines ≡ Err f → is_of_its_own f ≡ true
        → n < line_of_location f.location)
        → n < line_of_location f.location
    by_line (Err g) h ih =
        let at = faulty_at (IsAtLine (n + 1)) (with_line rate c (n + 1) line) g h (line_at c.stage c (n + 1) line) in
        let same = sym (err_first c n line lines g h) ∙ e in
        let here = err_at (IsAtLine (n + 1)) {X = ListProject} g f same at in
        omega (arith, here)
    by_line (Ok next) h ih = by_stage (is_behind next.stage) refl where
      by_stage : (behind : Bool) → is_behind next.stage ≡ behind → n < line_of_location f.location
      by_stage true b =
          alone f own (faulty_at IsNotAlone (finished rate next (n + 1)) f
          (sym (ends_first c next n line lines h b) ∙ e) (end_not_alone next (n + 1)))
      by_stage false b =
          let later = ih next (n + 1) f (sym (ok_first c next n line lines h b) ∙ e) own in omega (arith, later)

  without_later :
      (k n : ℕ) (line : List ℕ) (lines : List (List ℕ)) → n + 1 < k
      → without k n (line ∷ lines) ≡ line ∷ without k (n + 1) lines
  unfolding without
  without_later k n line lines later = let other : (n + 1 == k) ≡ false = grind (arith, nat_tests) in rw other refl

  without_here :
      (n : ℕ) (line : List ℕ) (lines : List (List ℕ))
      → without (n + 1) n (line ∷ lines) ≡ [] ∷ behind_emptied (opens_entry line) lines
  unfolding without
  without_here n line lines = let here : (n + 1 == n + 1) ≡ true = grind (arith, nat_tests) in rw here refl

  -- ---- the faults of lines are the first one and the others

  pub AreFaults-none :
      {c : Context} {n : ℕ} {lines : List (List ℕ)} {faults : List Refusal} {complete : Bool} (p : ListProject)
      → AreFaults rate c n lines faults complete → read_from rate c n lines ≡ Ok p
      → (faults ≡ []) × (complete ≡ true)
  AreFaults-none p (Spelled q e) g = (refl, refl)
  AreFaults-none p (Last f e own) g =
      absurd (let no : ◌≡◌ {A = Result ListProject LocatedFault} (Err f) (Ok p) = sym e ∙ g in cc)
  AreFaults-none p (More f e own others) g =
      absurd (let no : ◌≡◌ {A = Result ListProject LocatedFault} (Err f) (Ok p) = sym e ∙ g in cc)

  pub AreFaults-last :
      {c : Context} {n : ℕ} {lines : List (List ℕ)} {faults : List Refusal} {complete : Bool} (f : LocatedFault)
      → AreFaults rate c n lines faults complete → read_from rate c n lines ≡ Err f → is_of_its_own f ≡ false
      → (faults ≡ text_refusal f ∷ []) × (complete ≡ false)
  AreFaults-last f (Spelled q e) g other =
      absurd (let no : ◌≡◌ {A = Result ListProject LocatedFault} (Ok q) (Err f) = sym e ∙ g in cc)
  AreFaults-last f (Last h e _) g other =
      let same : ◌≡◌ {A = Result ListProject LocatedFault} (Err h) (Err f) = sym e ∙ g in
      let one : h ≡ f = cc in (ap (λ x. text_refusal x ∷ []) one, refl)
  AreFaults-last f (More h e own others) g other =
      let same : ◌≡◌ {A = Result ListProject LocatedFault} (Err h) (Err f) = sym e ∙ g in
      let one : h ≡ f = cc in alone f (subst (λ x. is_of_its_own x ≡ true) one own) other

  pub AreFaults-first :
      {c : Context} {n : ℕ} {lines : List (List ℕ)} {faults : List Refusal} {complete : Bool} (f : LocatedFault)
      → AreFaults rate c n lines faults complete → read_from rate c n lines ≡ Err f → is_of_its_own f ≡ true
      → (others : List Refusal) × (faults ≡ text_refusal f ∷ others)
      × AreFaults rate c n (without (line_of_location f.location) n lines) others complete
  AreFaults-first f (Spelled q e) g own =
      absurd (let no : ◌≡◌ {A = Result ListProject LocatedFault} (Ok q) (Err f) = sym e ∙ g in cc)
  AreFaults-first f (Last h e other) g own =
      let same : ◌≡◌ {A = Result ListProject LocatedFault} (Err h) (Err f) = sym e ∙ g in
      let one : h ≡ f = cc in alone f own (subst (λ x. is_of_its_own x ≡ false) one other)
  AreFaults-first {c} {n} {lines} {complete = complete} f (More {others = others} h e _ rest) g own =
      let same : ◌≡◌ {A = Result ListProject LocatedFault} (Err h) (Err f) = sym e ∙ g in
      let one : h ≡ f = cc in (
        others,
        ap (λ x. text_refusal x ∷ others) one,
        subst (λ x. AreFaults rate c n (without (line_of_location x.location) n lines) others complete) one rest,
      )

  -- ---- after a line that is read, the same faults remain

  module _ (c next : Context) (n : ℕ) (line : List ℕ) (read : with_line rate c (n + 1) line ≡ Ok next)
      (on : is_behind next.stage ≡ false) where
    step_on :
        {lines : List (List ℕ)} {faults : List Refusal} {complete : Bool} (rest : List (List ℕ))
        → AreFaults rate c n lines faults complete → lines ≡ line ∷ rest
        → AreFaults rate next (n + 1) rest faults complete
    step_on rest (Spelled p e) same =
        Spelled p (sym (ok_first c next n line rest read on) ∙ (ap (read_from rate c n) (sym same) ∙ e))
    step_on rest (Last f e other) same =
        Last f (sym (ok_first c next n line rest read on) ∙ (ap (read_from rate c n) (sym same) ∙ e)) other
    step_on rest (More f e own others) same =
        let first = sym (ok_first c next n line rest read on) ∙ (ap (read_from rate c n) (sym same) ∙ e) in
        let k = line_of_location f.location in
        More f first own (step_on (without k (n + 1) rest) others
        (ap (without k n) same ∙ without_later k n line rest (is_later rest next (n + 1) f first own)))

    step_back :
        {rest : List (List ℕ)} {faults : List Refusal} {complete : Bool}
        → AreFaults rate next (n + 1) rest faults complete → AreFaults rate c n (line ∷ rest) faults complete
    step_back {rest} (Spelled p e) = Spelled p (ok_first c next n line rest read on ∙ e)
    step_back {rest} (Last f e other) = Last f (ok_first c next n line rest read on ∙ e) other
    step_back {rest} {complete = complete} (More {others = more} f e own others) =
        let k = line_of_location f.location in
        More f (ok_first c next n line rest read on ∙ e) own
        (subst (λ ls. AreFaults rate c n ls more complete)
        (sym (without_later k n line rest (is_later rest next (n + 1) f e own))) (step_back others))

  -- ---- the faults exist

  some_at :
      (line : List ℕ) (c : Context) (n : ℕ) (lines others : List (List ℕ))
      → without (n + 1) n (line ∷ lines) ≡ [] ∷ others
      → ((next : Context) → (faults : List Refusal) × (complete : Bool) × AreFaults rate next (n + 1) lines faults complete)
      → ((next : Context) → (faults : List Refusal) × (complete : Bool) × AreFaults rate next (n + 1) others faults complete)
      → (faults : List Refusal) × (complete : Bool) × AreFaults rate c n (line ∷ lines) faults complete
  some_at line c n lines others emptied ih behind = by_line (with_line rate c (n + 1) line) refl where
    by_fault :
        (f : LocatedFault) → with_line rate c (n + 1) line ≡ Err f → (own : Bool) → is_of_its_own f ≡ own
        → (faults : List Refusal) × (complete : Bool) × AreFaults rate c n (line ∷ lines) faults complete
    by_fault f e false own = (text_refusal f ∷ [], false, Last f (err_first c n line lines f e) own)
    by_fault f e true own =
        let takes = takes_empty c.stage c (n + 1) line f e own in
        let (faults, complete, are) = behind takes.next in
        let at = faulty_at (IsAtLine (n + 1)) (with_line rate c (n + 1) line) f e (line_at c.stage c (n + 1) line) in
        let same : without (line_of_location f.location) n (line ∷ lines) ≡ [] ∷ others =
        ap (λ k. without k n (line ∷ lines)) at ∙ emptied in (
          text_refusal f ∷ faults,
          complete,
          More f (err_first c n line lines f e) own
              (subst (λ ls. AreFaults rate c n ls faults complete) (sym same)
              (step_back c takes.next n [] takes.reads takes.goes_on are)),
        )

    by_end :
        (next : Context) → with_line rate c (n + 1) line ≡ Ok next → is_behind next.stage ≡ true
        → (said : Result ListProject LocatedFault) → finished rate next (n + 1) ≡ said
        → (faults : List Refusal) × (complete : Bool) × AreFaults rate c n (line ∷ lines) faults complete
    by_end next e behind (Ok p) said = ([], true, Spelled p (ends_first c next n line lines e behind ∙ said))
    by_end next e behind (Err f) said = (
      text_refusal f ∷ [],
      false,
      Last f (ends_first c next n line lines e behind ∙ said)
          (faulty_at IsNotAlone (finished rate next (n + 1)) f said (end_not_alone next (n + 1))),
    )

    by_stage :
        (next : Context) → with_line rate c (n + 1) line ≡ Ok next → (behind : Bool) → is_behind next.stage ≡ behind
        → (faults : List Refusal) × (complete : Bool) × AreFaults rate c n (line ∷ lines) faults complete
    by_stage next e true b = by_end next e b (finished rate next (n + 1)) refl
    by_stage next e false b =
        let (faults, complete, are) = ih next in (faults, complete, step_back c next n line e b are)

    by_line :
        (read : Result Context LocatedFault) → with_line rate c (n + 1) line ≡ read
        → (faults : List Refusal) × (complete : Bool) × AreFaults rate c n (line ∷ lines) faults complete
    by_line (Err f) e = by_fault f e (is_of_its_own f) refl
    by_line (Ok next) e = by_stage next e (is_behind next.stage) refl

-- ---- emptied lines of an entry

stops :
    (line : List ℕ) (lines : List (List ℕ)) → (is_tag line || opens_entry line) ≡ true
    → without_entry (line ∷ lines) ≡ line ∷ lines
unfolding without_entry
stops line lines e = rw e refl

goes_on :
    (line : List ℕ) (lines : List (List ℕ)) → (is_tag line || opens_entry line) ≡ false
    → without_entry (line ∷ lines) ≡ [] ∷ without_entry lines
unfolding without_entry
goes_on line lines e = rw e refl

-- An empty line belongs to the entry before it.
empty_goes : (is_tag [] || opens_entry []) ≡ false
unfolding token_at
empty_goes = refl

empty_first : (b : Bool) (lines : List (List ℕ)) → behind_emptied b ([] ∷ lines) ≡ [] ∷ behind_emptied b lines
empty_first true lines = goes_on [] lines empty_goes
empty_first false lines = refl

emptied_again : (lines : List (List ℕ)) → without_entry (without_entry lines) ≡ without_entry lines
unfolding without_entry
emptied_again [] = refl
emptied_again (line ∷ lines) = by_test (is_tag line || opens_entry line) refl (emptied_again lines) where
  by_test :
      (ends : Bool) → (is_tag line || opens_entry line) ≡ ends
      → without_entry (without_entry lines) ≡ without_entry lines
      → without_entry (without_entry (line ∷ lines)) ≡ without_entry (line ∷ lines)
  by_test true e ih = ap without_entry (stops line lines e)
  by_test false e ih =
      ap without_entry (goes_on line lines e)
      ∙ (goes_on [] (without_entry lines) empty_goes ∙ (ap (λ ls. [] ∷ ls) ih ∙ sym (goes_on line lines e)))

emptied_twice :
    (o b : Bool) (lines : List (List ℕ))
    → behind_emptied o (behind_emptied b lines) ≡ behind_emptied (b || o) lines
emptied_twice false false lines = refl
emptied_twice false true lines = refl
emptied_twice true false lines = refl
emptied_twice true true lines = emptied_again lines

without_passed : (k n : ℕ) (lines : List (List ℕ)) → k ≤ n → without k n lines ≡ lines
unfolding without
without_passed k n [] passed = refl
without_passed k n (line ∷ lines) passed =
    let other : (n + 1 == k) ≡ false = grind (arith, nat_tests) in
    rw other (ap (λ ls. line ∷ ls) (without_passed k (n + 1) lines (omega (arith, passed))))

without_other :
    (k n : ℕ) (line : List ℕ) (lines : List (List ℕ)) → (n + 1 == k) ≡ false
    → without k n (line ∷ lines) ≡ line ∷ without k (n + 1) lines
unfolding without
without_other k n line lines other = rw other refl

without_this :
    (k n : ℕ) (line : List ℕ) (lines : List (List ℕ)) → (n + 1 == k) ≡ true
    → without k n (line ∷ lines) ≡ [] ∷ behind_emptied (opens_entry line) lines
unfolding without
without_this k n line lines this = rw this refl

or_same : (a b : Bool) → (a || b) ≡ (b || a)
or_same false false = refl
or_same false true = refl
or_same true false = refl
or_same true true = refl

-- The line with the first fault.
pub left-first :
    (k n m : ℕ) (b : Bool) (line : List ℕ) (lines : List (List ℕ)) → n + 1 ≡ m → m ≡ k
    → left k b n (line ∷ lines) ≡ [] ∷ left k (b || opens_entry line) m lines
left-first k n m b line lines at this =
    let here : (n + 1 == k) ≡ true = grind (arith, nat_tests) in
    let passed : k ≤ m = grind (arith, nat_tests) in
    ap (behind_emptied b) (without_this k n line lines here)
    ∙ (empty_first b (behind_emptied (opens_entry line) lines)
    ∙ ap (λ ls. [] ∷ ls)
    (emptied_twice b (opens_entry line) lines
    ∙ (ap (λ o. behind_emptied o lines) (or_same (opens_entry line) b)
    ∙ ap (behind_emptied (b || opens_entry line)) (sym (without_passed k m lines passed)))))

-- Any other line.
left-other :
    (k n m : ℕ) (b ends : Bool) (line : List ℕ) (lines : List (List ℕ)) → n + 1 ≡ m → (m ≡ k → ⊥)
    → ends ≡ (is_tag line || opens_entry line)
    → left k b n (line ∷ lines) ≡ (if b && not ends then [] else line) ∷ left k (b && not ends) m lines
left-other k n m b ends line lines at other is =
    let here : (n + 1 == k) ≡ false = false_from_ne_true _ (λ is. other (grind (arith, nat_tests))) in
    let next : without k n (line ∷ lines) ≡ line ∷ without k m lines =
    without_other k n line lines here ∙ ap (λ i. line ∷ without k i lines) at in
    ap (behind_emptied b) next ∙ by_tests b ends (sym is) where
      by_tests :
          (b ends : Bool) → (is_tag line || opens_entry line) ≡ ends
          → behind_emptied b (line ∷ without k m lines)
          ≡ (if b && not ends then [] else line) ∷ behind_emptied (b && not ends) (without k m lines)
      by_tests false false e = refl
      by_tests false true e = refl
      by_tests true false e = goes_on line (without k m lines) e
      by_tests true true e = stops line (without k m lines) e

pub left-emptied :
    (k n m : ℕ) (b ends : Bool) (line : List ℕ) (lines : List (List ℕ)) → n + 1 ≡ m → (m ≡ k → ⊥)
    → ends ≡ (is_tag line || opens_entry line) → (b && not ends) ≡ true
    → left k b n (line ∷ lines) ≡ [] ∷ left k (b && not ends) m lines
left-emptied k n m b ends line lines at other is e =
    left-other k n m b ends line lines at other is
    ∙ ap (λ empty. (if empty then [] else line) ∷ left k (b && not ends) m lines) e

pub left-kept :
    (k n m : ℕ) (b ends : Bool) (line : List ℕ) (lines : List (List ℕ)) → n + 1 ≡ m → (m ≡ k → ⊥)
    → ends ≡ (is_tag line || opens_entry line) → (b && not ends) ≡ false
    → left k b n (line ∷ lines) ≡ line ∷ left k (b && not ends) m lines
left-kept k n m b ends line lines at other is e =
    left-other k n m b ends line lines at other is
    ∙ ap (λ empty. (if empty then [] else line) ∷ left k (b && not ends) m lines) e

module _ (rate : ℕ) where
  -- ---- any lines have further faults

  pub AreFaults-exist :
      (lines : List (List ℕ)) (b : Bool) (c : Context) (n : ℕ)
      → (faults : List Refusal) × (complete : Bool) × AreFaults rate c n (behind_emptied b lines) faults complete
  unfolding read_from without_entry
  AreFaults-exist [] true c n =
      (text_refusal (at_line (max n 1) fault.SectionMismatch) ∷ [], false, Last _ refl refl)
  AreFaults-exist [] false c n =
      (text_refusal (at_line (max n 1) fault.SectionMismatch) ∷ [], false, Last _ refl refl)
  AreFaults-exist (line ∷ lines) b c n = by_entry b (AreFaults-exist lines) where
    Exist : Context → ℕ → List (List ℕ) → Type 0
    Exist c n lines = (faults : List Refusal) × (complete : Bool) × AreFaults rate c n lines faults complete

    first :
        (text : List ℕ) (b : Bool)
        → ((b : Bool) (c : Context) (n : ℕ)
        → (faults : List Refusal) × (complete : Bool) × AreFaults rate c n (behind_emptied b lines) faults complete)
        → Exist c n (text ∷ behind_emptied b lines)
    first text b ih =
        some_at rate text c n (behind_emptied b lines) (behind_emptied (b || opens_entry text) lines)
        (without_here rate n text (behind_emptied b lines)
        ∙ ap (λ ls. [] ∷ ls) (emptied_twice (opens_entry text) b lines))
        (λ next. ih b next (n + 1)) (λ next. ih (b || opens_entry text) next (n + 1))

    by_test :
        (ends : Bool) → (is_tag line || opens_entry line) ≡ ends
        → ((b : Bool) (c : Context) (n : ℕ)
        → (faults : List Refusal) × (complete : Bool) × AreFaults rate c n (behind_emptied b lines) faults complete)
        → Exist c n (without_entry (line ∷ lines))
    by_test true e ih = subst (Exist c n) (sym (stops line lines e)) (first line false ih)
    by_test false e ih = subst (Exist c n) (sym (goes_on line lines e)) (first [] true ih)

    by_entry :
        (b : Bool)
        → ((b : Bool) (c : Context) (n : ℕ)
        → (faults : List Refusal) × (complete : Bool) × AreFaults rate c n (behind_emptied b lines) faults complete)
        → Exist c n (behind_emptied b (line ∷ lines))
    by_entry true ih = by_test (is_tag line || opens_entry line) refl ih
    by_entry false ih = first line false ih

  -- ---- after the first line

  -- The first line can be read.
  pub AreFaults-on :
      (c next : Context) (n m : ℕ) (line : List ℕ) {lines : List (List ℕ)} (rest : List (List ℕ))
      {faults : List Refusal} {complete : Bool} → n + 1 ≡ m → with_line rate c m line ≡ Ok next
      → is_behind next.stage ≡ false → lines ≡ line ∷ rest → AreFaults rate c n lines faults complete
      → AreFaults rate next m rest faults complete
  AreFaults-on c next n m line rest {faults} {complete} at read on same are =
      subst (λ i. AreFaults rate next i rest faults complete) at
      (step_on rate c next n line (rw at read) on rest are same)

  -- The first line ends the list.
  pub AreFaults-end :
      (c next : Context) (n m : ℕ) (line : List ℕ) {lines : List (List ℕ)} (rest : List (List ℕ)) → n + 1 ≡ m
      → with_line rate c m line ≡ Ok next → is_behind next.stage ≡ true → lines ≡ line ∷ rest
      → read_from rate c n lines ≡ finished rate next m
  AreFaults-end c next n m line rest at read behind same =
      ap (read_from rate c n) same
      ∙ (ends_first rate c next n line rest (rw at read) behind ∙ ap (finished rate next) at)

  pub AreFaults-unfinished :
      (c next : Context) (n m : ℕ) {lines : List (List ℕ)} {faults : List Refusal} {complete : Bool} (f : LocatedFault)
      → AreFaults rate c n lines faults complete → read_from rate c n lines ≡ finished rate next m
      → finished rate next m ≡ Err f → (faults ≡ text_refusal f ∷ []) × (complete ≡ false)
  AreFaults-unfinished c next n m f are same e =
      AreFaults-last rate f are (same ∙ e)
      (faulty_at (IsNotAlone rate) (finished rate next m) f e (end_not_alone rate next m))

  -- The first line is faulty, and later lines can't be judged.
  pub AreFaults-cut :
      (c : Context) (n m : ℕ) (line : List ℕ) (rest : List (List ℕ)) {faults : List Refusal} {complete : Bool}
      (f : LocatedFault) → n + 1 ≡ m → with_line rate c m line ≡ Err f → is_of_its_own f ≡ false
      → AreFaults rate c n (line ∷ rest) faults complete → faults ≡ text_refusal f ∷ []
  AreFaults-cut c n m line rest f at e other are =
      (AreFaults-last rate f are (err_first rate c n line rest f (rw at e)) other).0

  -- The first line is faulty, and later lines can be judged.
  pub AreFaults-emptied :
      (c : Context) (n m k : ℕ) (b : Bool) (line : List ℕ) (lines : List (List ℕ)) {faults : List Refusal}
      {complete : Bool} (f : LocatedFault) → n + 1 ≡ m → with_line rate c m line ≡ Err f → is_of_its_own f ≡ true
      → AreFaults rate c n (line ∷ left k b m lines) faults complete
      → (others : List Refusal) × (faults ≡ text_refusal f ∷ others)
      × ((next : Context) → with_line rate c m [] ≡ Ok next
      → AreFaults rate next m (left k (b || opens_entry line) m lines) others complete)
  AreFaults-emptied c n m k b line lines {complete = complete} f at e own are =
      let read : with_line rate c (n + 1) line ≡ Err f = rw at e in
      let (others, same, rest) =
      AreFaults-first rate f are (err_first rate c n line (left k b m lines) f read) own in
      let here = faulty_at (IsAtLine (n + 1)) (with_line rate c (n + 1) line) f read (line_at rate c.stage c (n + 1) line) in
      let emptied : without (line_of_location f.location) n (line ∷ left k b m lines)
      ≡ [] ∷ left k (b || opens_entry line) m lines =
      ap (λ i. without i n (line ∷ left k b m lines)) here
      ∙ (without_here rate n line (left k b m lines)
      ∙ ap (λ ls. [] ∷ ls) (emptied_twice (opens_entry line) b (without k m lines))) in
      let takes = takes_empty rate c.stage c (n + 1) line f read own in (
        others,
        same,
        λ next reads.
            let one : ◌≡◌ {A = Result Context LocatedFault} (Ok takes.next) (Ok next) =
            sym takes.reads ∙ (rw at reads) in
            let found : takes.next ≡ next = cc in
            AreFaults-on c next n m [] (left k (b || opens_entry line) m lines) at reads
            (ap (λ (d : Context). is_behind d.stage) (sym found) ∙ takes.goes_on) emptied rest,
      )

  -- No line remains.
  pub AreFaults-nothing :
      (c : Context) (n : ℕ) (b : Bool) (k : ℕ) {lines : List (List ℕ)} {faults : List Refusal} {complete : Bool}
      → lines ≡ [] → AreFaults rate c n (left k b n lines) faults complete
      → faults ≡ text_refusal (at_line (max n 1) fault.SectionMismatch) ∷ []
  unfolding read_from without without_entry
  AreFaults-nothing c n true k none are =
      (AreFaults-last rate (at_line (max n 1) fault.SectionMismatch) are (rw none refl) refl).0
  AreFaults-nothing c n false k none are =
      (AreFaults-last rate (at_line (max n 1) fault.SectionMismatch) are (rw none refl) refl).0
