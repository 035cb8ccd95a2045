-- The stages of a list: before it, between its sections, and inside a section.
use Rattle.std.proofs.Common.{◌≡◌, ℕ, ◌+◌, Bool, true, false, List, [], ◌∷◌, ◌++◌, Result, Ok, Err, refl, ap, sym, subst, ◌∙◌}
use Rattle.std.specs.Prelude.{if◌then◌else◌, max, not}
use Rattle.std.specs.List.{list_all}
use Rattle.std.proofs.lemmas.Bool.{not-true}
use Rattle.facts.specs.Tests.{and_both, and_left, and_right}
use Rattle.list_terms.specs.declared.Section.{Section}
use Rattle.list_terms.specs.declared.Stage.TheVariants as stage
use Rattle.list_terms.specs.declared.TextFault.TheVariants.{SectionMismatch}
use Rattle.list_terms.specs.Project.{ListProject}
use Rattle.list_terms.specs.ReadingLaws.{Closes, IsInsideLine, Within, inside_is, line_leaves}
use Rattle.list_terms.specs.Steps.{◌>>=◌}
use Rattle.list_terms.specs.Tokens.{trimmed}
use Rattle.list_terms.specs.Text.{Context, Outline, LocatedFault, at_line, finished, in_section, is_behind, is_end, read_from, with_line}
use Rattle.adlread.specs.CutLines.{NumberedLine, with_numbers, texts}
use Rattle.adlread.proofs.FieldLaws.{chain, ok_same}
use Rattle.adlread.proofs.Walk.{walk, walk_step}

-- ---- lines in two parts

-- Lines split into those before a line, this line, and those after it.
pub record Parted (lines : List NumberedLine) : Type 0 where
  pub before : List NumberedLine
  pub line : NumberedLine
  pub after : List NumberedLine
  pub are : lines ≡ before ++ (line ∷ after)

abbrev pub at_first : (line : NumberedLine) (lines : List NumberedLine) → Parted (line ∷ lines)
at_first line lines = record { before = []; line = line; after = lines; are = refl }

abbrev pub one_before : (line : NumberedLine) {lines : List NumberedLine} → Parted lines → Parted (line ∷ lines)
one_before line c =
    record { before = line ∷ c.before; line = c.line; after = c.after; are = ap (λ ls. line ∷ ls) c.are }

-- ---- inside a section

abbrev pub outside_of : Context → Context
outside_of c = record c { stage = stage.Outside }

-- The line doesn't close the section with this name.
abbrev pub stays_inside : List ℕ → List ℕ → Bool
stays_inside name text = not (is_end name (trimmed text))

module _ (rate : ℕ) where
  -- ---- numbered lines of a list

  abbrev pub read_all : Context → ℕ → List NumberedLine → Result ListProject LocatedFault
  read_all c number [] = Err (at_line (max number 1) SectionMismatch)
  read_all c number (line ∷ lines) = with_line rate c line.number line.text >>= (λ next.
      if is_behind next.stage then finished rate next line.number else read_all next line.number lines)

  -- Reading continues after a line, or finishes at `</ADL>`.
  abbrev pub read_on : Context → ℕ → List NumberedLine → Result ListProject LocatedFault
  read_on next number lines = if is_behind next.stage then finished rate next number else read_all next number lines

  pub read_from-all :
      (c : Context) (number : ℕ) (lines : List (List ℕ))
      → read_from rate c number lines ≡ read_all c number (with_numbers (number + 1) lines)
  unfolding read_from
  read_from-all c number [] = refl
  read_from-all c number (text ∷ lines) =
      by_first (with_line rate c (number + 1) text) (λ next. read_from-all next (number + 1) lines) where
        by_first :
            (first : Result Context LocatedFault)
            → ((next : Context)
            → read_from rate next (number + 1) lines ≡ read_all next (number + 1) (with_numbers (number + 1 + 1) lines))
            → (first >>= (λ next. if is_behind next.stage then finished rate next (number + 1) else read_from rate next
            (number + 1) lines))
            ≡ (first >>= (λ next. if is_behind next.stage then finished rate next (number + 1) else read_all next
            (number + 1) (with_numbers (number + 1 + 1) lines)))
        by_first (Err fault) ih = refl
        by_first (Ok next) ih =
            ap (λ others. if is_behind next.stage then finished rate next (number + 1) else others) (ih next)

  pub read_step :
      (c next : Context) (n : ℕ) (line : NumberedLine) (lines : List NumberedLine)
      → with_line rate c line.number line.text ≡ Ok next
      → is_behind next.stage ≡ false → read_all c n (line ∷ lines) ≡ read_all next line.number lines
  read_step c next n line lines e before = rw (e, before) refl

  pub read_last :
      (c next : Context) (n : ℕ) (line : NumberedLine) (lines : List NumberedLine)
      → with_line rate c line.number line.text ≡ Ok next
      → is_behind next.stage ≡ true → read_all c n (line ∷ lines) ≡ finished rate next line.number
  read_last c next n line lines e behind = rw (e, behind) refl

  pub goes_on :
      (next : Context) (n : ℕ) (lines : List NumberedLine) (project : ListProject) → is_behind next.stage ≡ false
      → read_on next n lines ≡ Ok project → read_all next n lines ≡ Ok project
  goes_on next n lines project before e = rw before at e

  -- A line inside a section leaves it open.
  line_stays :
      (s : Section) (c next : Context) (n : ℕ) (text : List ℕ) → in_section rate c n text s ≡ Ok next
      → (next.stage ≡ c.stage) × (next.name ≡ c.name)
  line_stays s c next n text e =
      let same = line_leaves rate s c next n text e in
      (ap (λ (o : Outline). o.stage) same, ap (λ (o : Outline). o.name) same)

  inside_known :
      (s : Section) (c : Context) (n : ℕ) (text : List ℕ) → with_line rate (record c { stage = stage.Inside s }) n text
      ≡ (if is_end c.name (trimmed text) then Ok (outside_of c) else in_section rate
      (record c { stage = stage.Inside s }) n text s)
  unfolding with_line
  inside_known s c n text = refl

  -- A line inside a section closes it or belongs to it.
  inside_line_is :
      (s : Section) (c : Context) (n : ℕ) (text : List ℕ) → c.stage ≡ stage.Inside s
      → with_line rate c n text ≡ (if is_end c.name (trimmed text) then Ok (outside_of c) else in_section rate c n text s)
  inside_line_is s c n text open_is =
      let same : c ≡ record c { stage = stage.Inside s } = ap (λ st. record c { stage = st }) open_is in
      subst (λ d. with_line rate d n text ≡
      (if is_end d.name (trimmed text) then Ok (outside_of d) else in_section rate d n text s)) (sym same)
      (inside_known s c n text)

  pub read_inside :
      (s : Section) (content : List NumberedLine) (c last : Context) (n : ℕ) (end : NumberedLine)
      (rest : List NumberedLine) → c.stage ≡ stage.Inside s
      → list_all (stays_inside c.name) (texts content) ≡ true → is_end c.name (trimmed end.text) ≡ true
      → walk rate s c content ≡ Ok last
      → read_all c n (content ++ (end ∷ rest)) ≡ read_all (outside_of last) end.number rest
  read_inside s [] c last n end rest open_is inside ends e =
      let same = ok_same _ _ e in
      read_step c (outside_of c) n end rest (inside_line_is s c end.number end.text open_is ∙ rw ends refl) refl
      ∙ ap (λ l. read_all (outside_of l) end.number rest) same
  read_inside s (line ∷ content) c last n end rest open_is inside ends e =
      let f = chain (in_section rate c line.number line.text s) (λ m. walk rate s m content) last e in
      let more = not-true (is_end c.name (trimmed line.text))
      (and_left (stays_inside c.name line.text) (list_all (stays_inside c.name) (texts content)) inside) in
      let others = and_right (stays_inside c.name line.text) (list_all (stays_inside c.name) (texts content)) inside in
      let stays = line_stays s c f.value line.number line.text f.is in
      read_step c f.value n line (content ++ (end ∷ rest))
      (inside_line_is s c line.number line.text open_is ∙ rw more f.is)
      (ap is_behind (stays.0 ∙ open_is))
      ∙ read_inside s content f.value last line.number end rest (stays.0 ∙ open_is)
      (subst (λ name. list_all (stays_inside name) (texts content) ≡ true) (sym stays.1) others)
      (subst (λ name. is_end name (trimmed end.text) ≡ true) (sym stays.1) ends) f.others

  -- The lines up to the end of the open section, and the lines after it.
  pub record IsSectionRead (s : Section) (c : Context) (lines : List NumberedLine) (project : ListProject) : Type 0 where
    pub cut : Parted lines
    pub last : Context
    pub inside : list_all (stays_inside c.name) (texts cut.before) ≡ true
    pub ends : is_end c.name (trimmed cut.line.text) ≡ true
    pub walked : walk rate s c cut.before ≡ Ok last
    pub others : read_all (outside_of last) cut.line.number cut.after ≡ Ok project

  pub section_is_read :
      (s : Section) (lines : List NumberedLine) (c : Context) (n : ℕ) (project : ListProject) → c.stage ≡ stage.Inside s
      → read_all c n lines ≡ Ok project → IsSectionRead s c lines project
  section_is_read s [] c n project open_is e = absurd (cc)
  section_is_read s (line ∷ lines) c n project open_is e =
      let f = chain (with_line rate c line.number line.text) (λ next. read_on next line.number lines) project e in
      by_line f.value f.others (inside_is rate s c f.value line.number line.text
      (sym (inside_line_is s c line.number line.text open_is) ∙ f.is))
      (λ next o g. section_is_read s lines next line.number project o g) where
        by_line :
            (next : Context) → read_on next line.number lines ≡ Ok project
            → IsInsideLine rate s c line.number line.text next
            → ((next : Context) → next.stage ≡ stage.Inside s → read_all next line.number lines ≡ Ok project
            → IsSectionRead s next lines project)
            → IsSectionRead s c (line ∷ lines) project
        by_line next g (Closes ends same) ih = record {
          cut = at_first line lines;
          last = c;
          inside = refl;
          ends = ends;
          walked = refl;
          others = rw (← same) at g;
        }
        by_line next g (Within more i) ih =
            let stays = line_stays s c next line.number line.text i in
            let at = stays.0 ∙ open_is in
            let r = ih next at (goes_on next line.number lines project (ap is_behind at) g) in
            record {
              cut = one_before line r.cut;
              last = r.last;
              inside =
                  and_both (stays_inside c.name line.text) (list_all (stays_inside c.name) (texts r.cut.before))
                  (ap not more)
                  (subst (λ name. list_all (stays_inside name) (texts r.cut.before) ≡ true) stays.1 r.inside);
              ends = subst (λ name. is_end name (trimmed r.cut.line.text) ≡ true) stays.1 r.ends;
              walked = walk_step rate s c next line r.cut.before i ∙ r.walked;
              others = r.others;
            }
