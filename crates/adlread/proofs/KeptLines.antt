-- The lines of a kept section, all of them and in order.
use Rattle.std.proofs.Common.{◌≡◌, ℕ, ◌+◌, ◌≤◌, false, List, [], ◌∷◌, ◌++◌, length, Some, Ok, refl, ap, sym, ◌∙◌, append_assoc, arith}
use Rattle.std.specs.Prelude.{nat_le}
use Rattle.std.proofs.lemmas.Bool.Decides.{nat_tests}
use Rattle.std.proofs.lemmas.List.{append-nil}
use Rattle.list_terms.specs.declared.Rates.{Rates}
use Rattle.list_terms.specs.declared.Section.{Section}
use Rattle.list_terms.specs.Project.{Header}
use Rattle.list_terms.specs.HeaderLaws.{IsKept, put_lines, told_in}
use Rattle.list_terms.specs.ReadingLaws.{header_line_is}
use Rattle.list_terms.specs.Text.{Context, HeaderRead, in_header, in_section, keep, kept_line, rates_with}
use Rattle.adlread.specs.CutLines.{NumberedLine, texts}
use Rattle.adlread.proofs.FieldLaws.{chain, ok_same}
use Rattle.adlread.proofs.Walk.{walk, walk_step}

abbrev pub with_header : Context → HeaderRead → Context
with_header c header = record c { header = header }

-- The header with these lines added.
abbrev pub keep_all : Section → List (List ℕ) → Header → Header
keep_all s [] h = h
keep_all s (text ∷ lines) h = keep_all s lines (keep s text h)

pub keep_all-put :
    (s : Section) → IsKept s → (h : Header) (front lines : List (List ℕ))
    → keep_all s lines (put_lines s (Some front) h) ≡ put_lines s (Some (front ++ lines)) h
keep_all-put s kept h front [] = ap (λ ls. put_lines s (Some ls) h) (sym (append-nil front))
keep_all-put s kept h front (t ∷ lines) =
    ap (keep_all s lines) (kept.keeps h front t)
    ∙ (keep_all-put s kept h (front ++ t ∷ []) lines
    ∙ ap (λ ls. put_lines s (Some ls) h) (append_assoc front (t ∷ []) lines))

-- ---- the lines that were read

pub record AreHeaderLines (s : Section) (c next : Context) (lines : List (List ℕ)) : Type 0 where
  pub kept : ℕ
  pub rates : Rates
  pub is : next ≡ with_header c (record { lines = keep_all s lines c.header.lines; kept = kept; rates = rates })

module _ (rate : ℕ) where
  -- ---- reading the lines

  header_line_read :
      (s : Section) (c : Context) (n : ℕ) (text : List ℕ) (told : Rates) → nat_le 65535 c.header.kept ≡ false
      → rates_with rate s c.header.rates text ≡ Ok told
      → in_header rate c n text s
      ≡ Ok (with_header c (record { lines = keep s text c.header.lines; kept = c.header.kept + 1; rates = told }))
  unfolding in_header kept_line
  header_line_read s c n text told few e = rw (few, e) refl

  pub read_header :
      (s : Section) → IsKept s → (lines : List NumberedLine) (c : Context) (told : Rates) (count : ℕ)
      → count ≡ c.header.kept + length (texts lines)
      → count ≤ 65535 → told_in rate s c.header.rates (texts lines) ≡ Ok told
      → walk rate s c lines
      ≡ Ok (with_header c (record { lines = keep_all s (texts lines) c.header.lines; kept = count; rates = told }))
  read_header s same [] c told count counted few e =
      let none : count ≡ c.header.kept = omega arith in
      rw (none, ← ok_same _ _ e) refl
  read_header s same (line ∷ lines) c told count counted few e =
      let first = chain (rates_with rate s c.header.rates line.text) (λ next. told_in rate s next (texts lines)) told e in
      let under : nat_le 65535 c.header.kept ≡ false = grind (arith, nat_tests) in
      let next = with_header c
      (record { lines = keep s line.text c.header.lines; kept = c.header.kept + 1; rates = first.value }) in
      walk_step rate s c next line lines
      (same.read rate c line.number line.text ∙ header_line_read s c line.number line.text first.value under first.is)
      ∙ read_header s same lines next told count (omega arith) few first.others

  pub header_is_read :
      (s : Section) → IsKept s → (lines : List NumberedLine) (c next : Context) → walk rate s c lines ≡ Ok next
      → AreHeaderLines s c next (texts lines)
  header_is_read s same [] c next e = record { kept = c.header.kept; rates = c.header.rates; is = sym (ok_same _ _ e) }
  header_is_read s same (line ∷ lines) c next e =
      let f = chain (in_section rate c line.number line.text s) (λ m. walk rate s m lines) next e in
      let h = header_line_is rate s c f.value line.number line.text
      (sym (same.read rate c line.number line.text) ∙ f.is) in
      let r = header_is_read s same lines f.value next f.others in
      record {
        kept = r.kept;
        rates = r.rates;
        is = r.is ∙ ap (λ m. with_header m (record {
          lines = keep_all s (texts lines) m.header.lines;
          kept = r.kept;
          rates = r.rates;
        })) h.is;
      }
