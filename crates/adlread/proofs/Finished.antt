-- A list that was read to its end has all properties of a project, and its lines contain no LF.
use Rattle.std.proofs.Common.{◌≡◌, ℕ, ◌+◌, Bool, true, false, List, [], ◌∷◌, Option, None, Ok, IsTrue, refl, ap, sym, ◌∙◌, arith}
use Rattle.std.specs.Prelude.{unwrap_or, ◌==◌, ◌&&◌, map}
use Rattle.std.specs.List.{list_all}
use Rattle.facts.specs.Tests.{and_both, and_left, and_right}
use Rattle.sampletime.specs.TimeCode.{default_separators}
use Rattle.sound_terms.specs.declared.Event.{Event}
use Rattle.list_terms.specs.declared.OpenEntry.{OpenEntry}
use Rattle.list_terms.specs.declared.Rates.{Rates}
use Rattle.list_terms.specs.Lines.{lines_of, without_cr}
use Rattle.list_terms.specs.Text.{Context, HeaderRead, all_events, is_behind, read_from, with_line}
use Rattle.list_terms.specs.WholeProject.{IsHeader, is_line_byte}
use Rattle.adlread.specs.CutLines.{EndedPart, HasParts, LastPart, NoPart}
use Rattle.adlread.specs.SoFar.{IsHeaderSoFar}
use Rattle.adlread.proofs.LineLaws.{has_lines}

both_told :
    (rates : Rates) → (rates.sample_rate && rates.frame_rate) ≡ true
    → rates ≡ record { sample_rate = true; frame_rate = true }
both_told rates h =
    rw (and_left rates.sample_rate rates.frame_rate h, and_right rates.sample_rate rates.frame_rate h) refl

-- ---- lines

abbrev are_lines : List (List ℕ) → Bool
are_lines lines = list_all (list_all is_line_byte) lines

parts_are_lines : {text : List ℕ} {parts : List (List ℕ)} → HasParts text parts → are_lines parts ≡ true
parts_are_lines NoPart = refl
parts_are_lines (LastPart byte part h) = and_both (list_all is_line_byte (byte ∷ part)) true h refl
parts_are_lines (EndedPart part rest {parts} h others) =
    and_both (list_all is_line_byte part) (are_lines parts) h (parts_are_lines others)

without_cr-line : (text : List ℕ) → list_all is_line_byte text ≡ true → list_all is_line_byte (without_cr text) ≡ true
without_cr-line [] h = refl
without_cr-line (b ∷ []) h = by_test (b == 13) refl where
  by_test : (ends : Bool) → (b == 13) ≡ ends → list_all is_line_byte (without_cr (b ∷ [])) ≡ true
  by_test true e = rw e refl
  by_test false e = rw e h
without_cr-line (b ∷ c ∷ text) h =
    and_both (is_line_byte b) (list_all is_line_byte (without_cr (c ∷ text)))
    (and_left (is_line_byte b) (list_all is_line_byte (c ∷ text)) h)
    (without_cr-line (c ∷ text) (and_right (is_line_byte b) (list_all is_line_byte (c ∷ text)) h))

map-lines : (lines : List (List ℕ)) → are_lines lines ≡ true → are_lines (map without_cr lines) ≡ true
map-lines [] h = refl
map-lines (l ∷ lines) h =
    and_both (list_all is_line_byte (without_cr l)) (are_lines (map without_cr lines))
    (without_cr-line l (and_left (list_all is_line_byte l) (are_lines lines) h))
    (map-lines lines (and_right (list_all is_line_byte l) (are_lines lines) h))

pub lines_of-lines : (text : List ℕ) → list_all (list_all is_line_byte) (lines_of text) ≡ true
lines_of-lines text =
    let lines = has_lines text in rw lines.lines_are (map-lines lines.parts (parts_are_lines lines.cut))

-- The first line and the other lines contain no LF.
pub first_of-lines :
    (lines rest : List (List ℕ)) (text : List ℕ) → lines ≡ text ∷ rest → list_all (list_all is_line_byte) lines ≡ true
    → list_all is_line_byte text ≡ true
first_of-lines lines rest text e h = and_left (list_all is_line_byte text) (are_lines rest) (rw e at h)

pub rest_of-lines :
    (lines rest : List (List ℕ)) (text : List ℕ) → lines ≡ text ∷ rest → list_all (list_all is_line_byte) lines ≡ true
    → list_all (list_all is_line_byte) rest ≡ true
rest_of-lines lines rest text e h = and_right (list_all is_line_byte text) (are_lines rest) (rw e at h)

-- Without entries, the separators are the default ones.
pub standard-from_entries :
    (events : List Event) (entry : Option OpenEntry) (found : Option (List ℕ)) (old_events : List Event)
    (old_found : Option (List ℕ))
    (separators : List ℕ) → events ≡ all_events old_events entry → found ≡ old_found
    → separators ≡ unwrap_or found default_separators
    → (all_events old_events entry ≡ [] → old_found ≡ None) → events ≡ [] → separators ≡ default_separators
standard-from_entries events entry found old_events old_found separators same kept chosen none nothing =
    chosen ∙ ap (λ f. unwrap_or f default_separators) (kept ∙ none (sym same ∙ nothing))

module _ (rate : ℕ) where
  pub IsHeader-from_so_far :
      (h : HeaderRead) → IsHeaderSoFar rate h → IsTrue (h.rates.sample_rate && h.rates.frame_rate) → IsHeader rate h.lines
  IsHeader-from_so_far h is told = record {
    version = is.version;
    project = is.project;
    system = is.system;
    sequence = is.sequence;
    track_list = is.track_list;
    settings = is.settings;
    rates = is.rates ∙ ap Ok (both_told h.rates told);
    few = omega (arith, is.counted, is.few);
  }

  -- Reading one more line.
  pub read_from-step :
      (c next : Context) (n m : ℕ) (line : List ℕ) (lines rest : List (List ℕ)) → lines ≡ line ∷ rest → m ≡ n + 1
      → with_line rate c m line ≡ Ok next → false ≡ is_behind next.stage → read_from rate next m rest ≡ read_from rate c n lines
  unfolding read_from
  read_from-step c next n m line lines rest e f h before =
      let read : with_line rate c (n + 1) line ≡ Ok next = rw f at h in
      rw (e, f, read, ← before) refl
