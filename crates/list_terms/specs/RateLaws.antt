-- A list that can be read at a frame rate has that rate.
use Rattle.std.specs.Prelude.{◌≡◌, ◌+◌, ◌==◌, ◌&&◌, ◌⊎◌, ℕ, Bool, true, false, not, List, [], ◌∷◌, Option, None, Some, Result, Ok, Err, codes, if◌then◌else◌, is_ok, is_some, option_and_then, option_map, unwrap_or, refl}
use Rattle.std.proofs.Common.{◌∙◌, ap, inl, inr, sym, arith}
use Rattle.std.proofs.lemmas.Bool.{not-false}
use Rattle.std.proofs.lemmas.Bool.Decides.{nat_tests}
use Rattle.facts.specs.Tests.{and_right}
use Rattle.list_terms.specs.declared.Rates.{Rates}
use Rattle.list_terms.specs.declared.Section.{Section}
use Rattle.list_terms.specs.declared.Section.TheVariants as section
use Rattle.list_terms.specs.declared.Stage.{Stage}
use Rattle.list_terms.specs.declared.Stage.TheVariants as stage
use Rattle.list_terms.specs.declared.TextFault.{TextFault}
use Rattle.list_terms.specs.declared.TextFault.TheVariants as fault
use Rattle.list_terms.specs.EndLaws.{whole-none, whole-token}
use Rattle.list_terms.specs.EntryLines.{entry_with, is_48000, remark, sequence_fields, sequence_line, system_fields, system_line, tells_rate}
use Rattle.list_terms.specs.Fields.{end_line, is_keyword, told_rate}
use Rattle.list_terms.specs.FormLaws.{always, found, line_whole, reads_whole}
use Rattle.list_terms.specs.Forms as form
use Rattle.list_terms.specs.Forms.{Done, Then, any, reads, reads_line, value_at}
use Rattle.list_terms.specs.KeywordLaws.{other_keyword}
use Rattle.list_terms.specs.Lines.{lines_of}
use Rattle.list_terms.specs.Project.{ListProject}
use Rattle.list_terms.specs.ReadingLaws.{Begins, BlankBefore, BlankEvent, BlankOutside, BlankSource, Closes, DroppedSource, Ends, FrontRemark, Further, IsBeforeLine, IsEventLine, IsHeaderLine, IsInsideLine, IsOutsideLine, IsSourceLine, Opens, ToldEntry, ToldSource, Within, before_is, event_line_is, header_line_is, inside_is, line_leaves, named_whole, outline_of, outside_is, source_line_is, unsupported_line_is}
use Rattle.list_terms.specs.StepLaws.{chain, if_ok, ok_same, unless_ok}
use Rattle.list_terms.specs.Steps.{◌>>=◌}
use Rattle.list_terms.specs.Text.{is_cut_whole, Context, LocatedFault, Outline, at_line, finished, has_opened, in_header, in_section, is_behind, is_end, is_opened, is_tag, may_stand, nothing_read, opens, passed, passed_before, passed_inside, passed_outside, rate_from, rate_in, rate_of, rate_of_line, rates_with, read_from, section_of, system_rates, untagged, whole_token, with_line, with_opened, with_section}
use Rattle.list_terms.specs.Tokens.{Cut, token_at, trimmed}

-- ---- one line

rate_from-told :
    (o : Outline) (text : List ℕ) (lines : List (List ℕ)) (rate : ℕ) → rate_in o text ≡ Some rate
    → rate_from o (text ∷ lines) ≡ rate
unfolding rate_from
rate_from-told o text lines rate e = rw (e, rate_from)

pub rate_from-next :
    (o next : Outline) (text : List ℕ) (lines : List (List ℕ)) → rate_in o text ≡ None → passed o text ≡ Some next
    → rate_from o (text ∷ lines) ≡ rate_from next lines
unfolding rate_from
rate_from-next o next text lines e f = rw (e, f, rate_from)

-- ---- a line that was read is in the outline too

-- Whether SEQUENCE has given the frame rate.
abbrev has_rate : Context → Bool
has_rate c = c.header.rates.frame_rate

whole_line : (text : List ℕ) → is_tag text ≡ false → end_line text ≡ Ok tt → (not (is_tag text) && is_ok (end_line text)) ≡ true
whole_line text t e = rw (t, e) refl

module _ (rate : ℕ) where
  untagged_is :
      {X : Type 0} (text : List ℕ) (said : Result X TextFault) (x : X) → untagged text said ≡ Ok x
      → (is_tag text ≡ false) × (said ≡ Ok x)
  untagged_is text said x e = unless_ok (is_tag text) fault.SectionMismatch said x e

  system_stands :
      (rates told : Rates) (text : List ℕ) → system_rates rate rates text ≡ Ok told
      → (may_stand section.System text ≡ true) × (rates ≡ told)
  unfolding system_line reads_line
  system_stands rates told text e =
      let u = untagged_is text (system_line rate text >>= (λ _. Ok rates)) told e in
      let l = chain (system_line rate text) (λ _. Ok rates) told u.1 in
      (whole_line text u.0 (line_whole tt (system_fields rate) text l.value (token_at text) refl l.is), ok_same _ _ l.others)

  -- The frame rate given by a line of SEQUENCE: the list's rate, or none.
  abbrev SaysRate : Rates → Rates → List ℕ → Type 0
  SaysRate rates told text =
      (rate_of_line text ≡ Some rate) ⊎ ((rate_of_line text ≡ None) × (told.frame_rate ≡ rates.frame_rate))

  same_rate : (a b : ℕ) → (a == b) ≡ true → a ≡ b
  same_rate a b h = grind (arith, nat_tests)

  tells_is : (text : List ℕ) → unwrap_or (option_map (λ told. told == rate) (told_rate text)) false ≡ true
      → told_rate text ≡ Some rate
  tells_is text h = by_told (told_rate text) refl where
    by_told : (found : Option ℕ) → told_rate text ≡ found → told_rate text ≡ Some rate
    by_told None f = absurd (let no : false ≡ true = rw f at h in cc)
    by_told (Some told) f = f ∙ ap Some (same_rate told rate (rw f at h))

  -- The rate after `(SEQ_FRAME_RATE)`.
  rate_tells :
      (rates told : Rates) (line : List ℕ)
      → reads (Then (form.Passes (tells_rate rate) fault.WrongSequence) (λ _. Done any rates)) line ≡ Ok told
      → option_and_then (λ (next : Cut). told_rate next.0.content) (whole_token line) ≡ Some rate
  unfolding reads
  rate_tells rates told line e =
      let c = chain (value_at (form.Passes (tells_rate rate) fault.WrongSequence) line) _ told e in
      let f = found (form.Passes (tells_rate rate) fault.WrongSequence) line c.value c.is in
      rw f.at (tells_is f.token.content (if_ok (tells_rate rate f.token) tt fault.WrongSequence c.value.0 f.is).0)

  -- A line of SEQUENCE that was read.
  record IsSequenceLine (rates told : Rates) (text : List ℕ) : Type 0 where
    whole : end_line text ≡ Ok tt
    says : SaysRate rates told text

  sequence_says :
      (rates told : Rates) (text : List ℕ) → (found : Result (Option Cut) TextFault) → token_at text ≡ found
      → sequence_line rate rates text ≡ Ok told → IsSequenceLine rates told text
  unfolding sequence_line reads_line rate_of_line
  sequence_says rates told text (Err fault) f e =
      absurd (let no : ◌≡◌ {A = Result Rates TextFault} (Err fault) (Ok told) = rw f at e in cc)
  sequence_says rates told text (Ok None) f e =
      let same : rates ≡ told = ok_same {E = TextFault} _ _ (rw f at e) in
      record {
        whole = whole-none text f;
        says = inr (rw f refl, ap (λ (r : Rates). r.frame_rate) (sym same));
      }
  sequence_says rates told text (Ok (Some (token, rest))) f e = by_fields (rw f at e) where
    by_keyword :
        (sample : Bool) → is_keyword (codes "SEQ_SAMPLE_RATE") token ≡ sample → (frame : Bool)
        → is_keyword (codes "SEQ_FRAME_RATE") token ≡ frame → reads (sequence_fields rate rates token) rest ≡ Ok told
        → SaysRate rates told text
    by_keyword true s frame g o =
        let other = other_keyword (codes "SEQ_SAMPLE_RATE") (codes "SEQ_FRAME_RATE") token refl s in
        let sample = Then (form.Passes is_48000 fault.WrongSequence)
        (λ _. Done any (record rates { sample_rate = true })) in
        inr (
          rw (f, other) refl,
          always (λ (r : Rates). r.frame_rate ≡ rates.frame_rate) sample rest told (λ _. refl)
              (rw s at o),
        )
    by_keyword false s true g o =
        inl (rw (f, g) (rate_tells (record rates { frame_rate = true }) told rest (rw (s, g) at o)))
    by_keyword false s false g o =
        inr (
          rw (f, g) refl,
          always (λ (r : Rates). r.frame_rate ≡ rates.frame_rate) (Done any rates) rest told refl
              (rw (s, g) at o),
        )

    by_fields : reads (sequence_fields rate rates token) rest ≡ Ok told → IsSequenceLine rates told text
    by_fields o = record {
      whole = whole-token text rest token f (reads_whole (sequence_fields rate rates token) rest told o);
      says = by_keyword (is_keyword (codes "SEQ_SAMPLE_RATE") token) refl
          (is_keyword (codes "SEQ_FRAME_RATE") token) refl o;
    }

  -- A line of SOURCE_INDEX that was read is allowed there, and leaves the frame rate unchanged.
  source_stands :
      {c next : Context} {n : ℕ} (text : List ℕ) → is_tag text ≡ false → IsSourceLine rate c n text next
      → (is_cut_whole text ≡ true) × (has_rate next ≡ has_rate c)
  source_stands text t (BlankSource at) = (whole_line text t (whole-none text at), refl)
  source_stands text t (ToldSource source h free) = (whole_line text t (named_whole _ _ text source h), refl)
  source_stands text t (DroppedSource token rest at other ends) =
      (whole_line text t (whole-token text rest token at ends), refl)

  -- A line of EVENT_LIST that was read is allowed there, and leaves the frame rate unchanged.
  event_stands :
      {c next : Context} (text : List ℕ) → is_tag text ≡ false → IsEventLine rate c text next
      → (is_cut_whole text ≡ true) × (has_rate next ≡ has_rate c)
  event_stands text t (BlankEvent at) = (whole_line text t (whole-none text at), refl)
  event_stands text t (ToldEntry g h free) = (whole_line text t (named_whole _ _ text g h), refl)
  event_stands text t (FrontRemark token rest at none says) =
      (whole_line text t (whole-token text rest token at (reads_whole (remark token) rest tt says)), refl)
  event_stands text t (Further entry new token rest at is says) = (
    whole_line text t (whole-token text rest token at (reads_whole (entry_with rate entry token) rest new says)),
    refl,
  )

  -- A kept line that gives no rate leaves the frame rate unchanged.
  rate_stays :
      (s : Section) (c next : Context) (text : List ℕ) (h : IsHeaderLine rate s c next text) → c.header.rates ≡ h.rates
      → has_rate next ≡ has_rate c
  rate_stays s c next text h same = ap has_rate h.is ∙ ap (λ (r : Rates). r.frame_rate) (sym same)

  -- Either this rate was given now, or none was and nothing changed.
  abbrev Tells : Context → Context → Option ℕ → Type 0
  Tells c next found = (found ≡ Some rate) ⊎ ((found ≡ None) × (has_rate next ≡ has_rate c))

  -- The outline after a line that was read, and the frame rate that the line gives.
  abbrev Passes : Context → Context → List ℕ → Type 0
  Passes c next text =
      (rate_in (outline_of c) text ≡ Some rate)
      ⊎ ((rate_in (outline_of c) text ≡ None)
      × ((passed (outline_of c) text ≡ Some (outline_of next)) × (has_rate next ≡ has_rate c)))

  abbrev inside : Section → Context → Context
  inside s c = record c { stage = stage.Inside s }

  -- A line of a section that was read is allowed there, and gives this rate or none.
  abbrev Stands : Section → Context → Context → List ℕ → Type 0
  Stands s c next text = (may_stand s text ≡ true) × Tells c next (rate_in (outline_of (inside s c)) text)

  header_stands :
      (s : Section) (c next : Context) (n : ℕ) (text : List ℕ) → may_stand s text ≡ true
      → ((rates : Rates) → rates_with rate s rates text ≡ Ok rates)
      → rate_in (outline_of (inside s c)) text ≡ None → in_header rate c n text s ≡ Ok next → Stands s c next text
  header_stands s c next n text may none_told none e =
      let h = header_line_is rate s c next n text e in
      (may, inr (none, rate_stays s c next text h (ok_same _ _ (sym (none_told c.header.rates) ∙ h.says))))

  sequence_stands :
      (c next : Context) (n : ℕ) (text : List ℕ) → is_end c.name (trimmed text) ≡ false
      → in_header rate c n text section.Sequence ≡ Ok next → Stands section.Sequence c next text
  sequence_stands c next n text more e =
      let h = header_line_is rate section.Sequence c next n text e in
      let u = untagged_is text (sequence_line rate c.header.rates text) h.rates h.says in
      let q = sequence_says c.header.rates h.rates text (token_at text) refl u.1 in
      (whole_line text u.0 q.whole, by_says h q.says) where
        by_says :
            (h : IsHeaderLine rate section.Sequence c next text) → SaysRate c.header.rates h.rates text
            → Tells c next (rate_in (outline_of (inside section.Sequence c)) text)
        by_says h (inl told) = inl (rw more told)
        by_says h (inr (none, same)) = inr (rw more none, ap has_rate h.is ∙ same)

  section_stands :
      (s : Section) (c next : Context) (n : ℕ) (text : List ℕ) → is_end c.name (trimmed text) ≡ false
      → in_section rate c n text s ≡ Ok next → Stands s c next text
  unfolding in_section
  section_stands section.Version c next n text more e =
      header_stands section.Version c next n text refl (λ rates. refl) refl e
  section_stands section.Project c next n text more e =
      header_stands section.Project c next n text refl (λ rates. refl) refl e
  section_stands section.System c next n text more e =
      let h = header_line_is rate section.System c next n text e in
      let y = system_stands c.header.rates h.rates text h.says in
      (y.0, inr (refl, rate_stays section.System c next text h y.1))
  section_stands section.Sequence c next n text more e = sequence_stands c next n text more e
  section_stands section.TrackList c next n text more e =
      header_stands section.TrackList c next n text refl (λ rates. refl) refl e
  section_stands section.SourceIndex c next n text more e =
      let l = source_line_is rate c next n text e in
      let h = source_stands text l.0 l.1 in (h.0, inr (refl, h.1))
  section_stands section.EventList c next n text more e =
      let l = event_line_is rate c next n text e in
      let h = event_stands text l.0 l.1 in (h.0, inr (refl, h.1))
  section_stands section.Skipped c next n text more e =
      (refl, inr (refl, ap has_rate (sym (ok_same {E = LocatedFault} _ _ e))))
  section_stands section.Unsupported c next n text more e =
      let p = unsupported_line_is c next n text e in (p.0, inr (refl, ap has_rate (sym p.1)))

  inside_passes :
      (s : Section) (c next : Context) (n : ℕ) (text : List ℕ) → is_end c.name (trimmed text) ≡ false
      → in_section rate (inside s c) n text s ≡ Ok next → Passes (inside s c) next text
  unfolding passed passed_inside
  inside_passes s c next n text more e = by_rate (section_stands s (inside s c) next n text more e) where
    by_rate : Stands s (inside s c) next text → Passes (inside s c) next text
    by_rate (may, inl told) = inl told
    by_rate (may, inr (none, same)) =
        inr (none, (rw (more, may) (ap Some (sym (line_leaves rate s (inside s c) next n text e))), same))

  -- ---- lines outside every section

  -- A section that opens is marked as opened, and gives no rate.
  record IsBegun (c : Context) (n : ℕ) (s : Section) : Type 0 where
    opened : has_opened (outline_of c).opened s ≡ is_opened c s
    marked : with_opened (outline_of c).opened s ≡ (outline_of (with_section c n s)).opened
    told : has_rate (with_section c n s) ≡ has_rate c
    ends : (text : List ℕ) → is_end c.name (trimmed text) ≡ true → rate_in (outline_of (inside s c)) text ≡ None

  is_begun : (c : Context) (n : ℕ) (s : Section) → IsBegun c n s
  is_begun c n section.Version = record { opened = refl; marked = refl; told = refl; ends = λ text ends. refl }
  is_begun c n section.Project = record { opened = refl; marked = refl; told = refl; ends = λ text ends. refl }
  is_begun c n section.System = record { opened = refl; marked = refl; told = refl; ends = λ text ends. refl }
  is_begun c n section.Sequence =
      record { opened = refl; marked = refl; told = refl; ends = λ text ends. rw ends refl }
  is_begun c n section.TrackList = record { opened = refl; marked = refl; told = refl; ends = λ text ends. refl }
  is_begun c n section.SourceIndex = record { opened = refl; marked = refl; told = refl; ends = λ text ends. refl }
  is_begun c n section.EventList = record { opened = refl; marked = refl; told = refl; ends = λ text ends. refl }
  is_begun c n section.Skipped = record { opened = refl; marked = refl; told = refl; ends = λ text ends. refl }
  is_begun c n section.Unsupported = record { opened = refl; marked = refl; told = refl; ends = λ text ends. refl }

  -- ---- the whole list

  line_goes :
      (st : Stage) (c next : Context) (n : ℕ) (text : List ℕ) → is_behind st ≡ false
      → with_line rate (record c { stage = st }) n text ≡ Ok next → Passes (record c { stage = st }) next text
  unfolding with_line passed passed_before passed_outside passed_inside opens
  line_goes stage.Before c next n text before e =
      by_line (before_is (record c { stage = stage.Before }) next n text e) where
        by_line : {next : Context} → IsBeforeLine (record c { stage = stage.Before }) text next
            → Passes (record c { stage = stage.Before }) next text
        by_line (BlankBefore blank) = inr (refl, (rw blank refl, refl))
        by_line (Begins some begins) = inr (refl, (rw (some, begins) refl, refl))
  line_goes stage.Outside c next n text before e =
      by_line (outside_is (record c { stage = stage.Outside }) next n text e) where
        by_line : {next : Context} → IsOutsideLine (record c { stage = stage.Outside }) n text next
            → Passes (record c { stage = stage.Outside }) next text
        by_line (BlankOutside blank) = inr (refl, (rw blank refl, refl))
        by_line (Ends some ends) = inr (refl, (rw (some, ends) refl, refl))
        by_line (Opens name some more named free) =
            let d = record c { stage = stage.Outside } in
            let s = section_of name in
            let b = is_begun d n s in
            let goes = ap (λ o. Some (record { stage = stage.Inside s; name = name; opened = o })) b.marked in
            inr (refl, (rw (some, more, named, b.opened, free) goes, b.told))
  line_goes (stage.Inside s) c next n text before e = by_line (inside_is rate s (inside s c) next n text e) where
    by_line : IsInsideLine rate s (inside s c) n text next → Passes (inside s c) next text
    by_line (Closes ends same) =
        inr ((is_begun c n s).ends text ends, (rw ends (ap (λ d. Some (outline_of d)) same), ap has_rate (sym same)))
    by_line (Within more e) = inside_passes s c next n text more e
  line_goes stage.Behind c next n text before e = absurd (cc)

  told_at_end :
      (c : Context) (n : ℕ) (p : ListProject) → finished rate c n ≡ Ok p → has_rate c ≡ true
  unfolding finished
  told_at_end c n p e =
      let there = unless_ok (not (is_some c.header.lines.sequence && c.has_index && c.has_events))
      (at_line n fault.MissingSection) _ p e in
      let told = unless_ok (not (c.header.rates.sample_rate && c.header.rates.frame_rate))
      (at_line n fault.MissingSequence) _ p there.1 in
      and_right c.header.rates.sample_rate c.header.rates.frame_rate
      (not-false (c.header.rates.sample_rate && c.header.rates.frame_rate) told.0)

  rate_from-read :
      (lines : List (List ℕ)) (c : Context) (n : ℕ) (p : ListProject) → is_behind c.stage ≡ false
      → has_rate c ≡ false → read_from rate c n lines ≡ Ok p → rate_from (outline_of c) lines ≡ rate
  unfolding read_from rate_from
  rate_from-read [] c n p before untold e = absurd (cc)
  rate_from-read (text ∷ lines) c n p before untold e =
      let f = chain (with_line rate c (n + 1) text)
      (λ next. if is_behind next.stage then finished rate next (n + 1) else read_from rate next (n + 1) lines) p e in
      by_line f.value f.others (line_goes c.stage c f.value (n + 1) text before f.is)
      (λ b u g. rate_from-read lines f.value (n + 1) p b u g) where
        by_line :
            (next : Context)
            → (if is_behind next.stage then finished rate next (n + 1) else read_from rate next (n + 1) lines) ≡ Ok p
            → Passes c next text
            → (is_behind next.stage ≡ false → has_rate next ≡ false → read_from rate next (n + 1) lines ≡ Ok p
            → rate_from (outline_of next) lines ≡ rate)
            → rate_from (outline_of c) (text ∷ lines) ≡ rate
        by_line next g (inl told) ih = rate_from-told (outline_of c) text lines rate told
        by_line next g (inr (none, (goes, same))) ih = by_stage (is_behind next.stage) refl where
          by_stage : (behind : Bool) → is_behind next.stage ≡ behind → rate_from (outline_of c) (text ∷ lines) ≡ rate
          by_stage true b =
              absurd (let told = told_at_end next (n + 1) p (rw b at g) in
              let no : false ≡ true = sym untold ∙ (sym same ∙ told) in cc)
          by_stage false b =
              rate_from-next (outline_of c) (outline_of next) text lines none goes ∙ ih b (same ∙ untold) (rw b at g)

-- A text that can be read at a frame rate has that rate.
pub rate_of-read :
    (rate : ℕ) (text : List ℕ) (p : ListProject) → read_from rate nothing_read 0 (lines_of text) ≡ Ok p
    → rate_of text ≡ rate
unfolding rate_of
rate_of-read rate text p e = rate_from-read rate (lines_of text) nothing_read 0 p refl refl e
