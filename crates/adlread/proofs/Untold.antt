-- A text without the keyword of the frame rate has rate 25.
use Rattle.std.proofs.Common.{◌≡◌, ℕ, zero, suc, ◌<◌, ◌≤◌, Bool, true, false, List, [], ◌∷◌, ◌++◌, Option, None, Some, Result, Ok, Err, length, take, drop, refl, ap, sym, subst, ◌∙◌, arith}
use Rattle.std.specs.Prelude.{◌==◌, ◌||◌, not, codes, is_some, map, option_map, if◌then◌else◌}
use Rattle.std.specs.List.{list_all, take_while}
use Rattle.std.specs.Str.{bytes_eq, str_to_ascii_lowercase}
use Rattle.std.specs.Char.{to_ascii_lowercase}
use Rattle.std.proofs.lemmas.Bool.{false_from_ne_true, not-true, not_from_false, or_left, or_right}
use Rattle.std.proofs.lemmas.Bool.Decides.{nat_tests}
use Rattle.std.proofs.lemmas.List.{drop_all, length-map, length-take, take-append-drop, take-append-le, take_all}
use Rattle.std.proofs.lemmas.Slice.Eq.{bytes_eq-Decides}
use Rattle.memchr.specs.Find.{NoneBefore, Nowhere, Passes, is_byte2}
use Rattle.facts.specs.Tests.{and_both, and_left, and_right}
use Rattle.list_terms.specs.declared.TextFault.{TextFault}
use Rattle.list_terms.specs.declared.TokenKind.{TokenKind}
use Rattle.list_terms.specs.declared.TokenKind.TheVariants.{Quoted, Keyword, Word}
use Rattle.list_terms.specs.Fields.{is_keyword}
use Rattle.list_terms.specs.Lines.{lines_of, without_cr, without_mark}
use Rattle.list_terms.specs.Names.{begins_with}
use Rattle.list_terms.specs.RateLaws.{rate_from-next}
use Rattle.list_terms.specs.Tokens.{Cut, TokenText, is_blank, token_at, token_text}
use Rattle.list_terms.specs.TokenLaws.{is_content, token_at-front}
use Rattle.list_terms.specs.Text.{Outline, has_word, is_in_sequence, nothing_passed, passed, rate_from, rate_in, rate_of, rate_of_line, whole_token}
use Rattle.adlread.specs.CutLines.{EndedPart, HasParts, LastPart, NoPart}
use Rattle.adlread.proofs.LineLaws.{has_lines}

-- A text is its part without a CR at the end, followed by that CR if there is one.
cr_of : (text : List ℕ) → (cr : List ℕ) × (text ≡ without_cr text ++ cr)
cr_of [] = ([], refl)
cr_of (b ∷ []) = by_test (b == 13) refl where
  by_test : (is : Bool) → (b == 13) ≡ is → (cr : List ℕ) × ((b ∷ []) ≡ without_cr (b ∷ []) ++ cr)
  by_test true e = (b ∷ [], rw e refl)
  by_test false e = ([], rw e refl)
cr_of (b ∷ c ∷ text) = let (cr, is) = cr_of (c ∷ text) in (cr, ap (λ t. b ∷ t) is)

-- ---- a word in parts of a text

module _ (word : List ℕ) where
  same_length :
      (text : List ℕ) → bytes_eq (str_to_ascii_lowercase text) (str_to_ascii_lowercase word) ≡ true
      → length text ≡ length word
  same_length text h =
      sym (length-map text to_ascii_lowercase)
      ∙ ap length ((bytes_eq-Decides (str_to_ascii_lowercase text) (str_to_ascii_lowercase word)).0 h)
      ∙ length-map word to_ascii_lowercase

  begins-longer : (text more : List ℕ) → begins_with word text ≡ true → begins_with word (text ++ more) ≡ true
  begins-longer text more h =
      let front = same_length (take (length word) text) h in
      let least = length-take (length word) text in
      let long : length word ≤ length text = omega (arith, front, least) in
      rw (take-append-le (length word) text more long) h

  pub too_short : (text : List ℕ) → length text < length word → has_word word text ≡ false
  too_short [] few = refl
  too_short (b ∷ text) few =
      let begins : begins_with word (b ∷ text) ≡ false = false_from_ne_true _ (λ has.
      absurd (omega (arith, few, same_length (take (length word) (b ∷ text)) has, length-take (length word) (b ∷ text)))) in
      rw (begins, too_short text (omega (arith, few))) refl

  has_word-front : (text more : List ℕ) → has_word word text ≡ true → has_word word (text ++ more) ≡ true
  has_word-front [] more h = absurd (cc)
  has_word-front (b ∷ text) more h = by_test (begins_with word (b ∷ text)) refl (has_word-front text more) where
    by_test :
        (begins : Bool) → begins_with word (b ∷ text) ≡ begins
        → (has_word word text ≡ true → has_word word (text ++ more) ≡ true)
        → has_word word ((b ∷ text) ++ more) ≡ true
    by_test true e later = or_left _ _ (begins-longer (b ∷ text) more e)
    by_test false e later = or_right _ _ (later (rw e at h))

  has_word-behind : (front text : List ℕ) → has_word word text ≡ true → has_word word (front ++ text) ≡ true
  has_word-behind [] text h = h
  has_word-behind (b ∷ front) text h = or_right _ _ (has_word-behind front text h)

  lacks-front : (text more : List ℕ) → has_word word (text ++ more) ≡ false → has_word word text ≡ false
  lacks-front text more h = false_from_ne_true _ (λ has. let longer = has_word-front text more has in cc)

  lacks-behind : (front text : List ℕ) → has_word word (front ++ text) ≡ false → has_word word text ≡ false
  lacks-behind front text h = false_from_ne_true _ (λ has. let longer = has_word-behind front text has in cc)

  line_lacks : (part : List ℕ) → has_word word part ≡ false → not (has_word word (without_cr part)) ≡ true
  line_lacks part h =
      let (cr, is) = cr_of part in
      not_from_false _ (lacks-front (without_cr part) cr (subst (λ t. has_word word t ≡ false) is h))

  lines_lack :
      {text : List ℕ} {parts : List (List ℕ)} → HasParts text parts → has_word word text ≡ false
      → list_all (λ line. not (has_word word line)) (map without_cr parts) ≡ true
  lines_lack NoPart h = refl
  lines_lack (LastPart byte part _) h = and_both _ true (line_lacks (byte ∷ part) h) refl
  lines_lack (EndedPart part rest _ others) h =
      and_both _ _ (line_lacks part (lacks-front part (10 ∷ rest) h))
      (lines_lack others (lacks-behind (10 ∷ []) rest (lacks-behind part (10 ∷ rest) h)))

  mark_lacks : (text : List ℕ) → has_word word text ≡ false → has_word word (without_mark text) ≡ false
  mark_lacks text h = by_test (bytes_eq (take 3 text) (239 ∷ 187 ∷ 191 ∷ [])) where
    by_test : (is : Bool) → has_word word (if is then drop 3 text else text) ≡ false
    by_test true = lacks-behind (take 3 text) (drop 3 text) (rw (take-append-drop 3 text) h)
    by_test false = h

  token_has :
      (kind : TokenKind) (content : List ℕ) → is_content kind content ≡ true
      → is_keyword word (record { kind = kind; content = content }) ≡ true
      → has_word word (token_text (record { kind = kind; content = content })) ≡ true
  token_has Quoted content h is = absurd (cc)
  token_has Keyword [] h is = absurd (cc)
  token_has Keyword (b ∷ content) h is =
      let long = same_length (b ∷ content) is in
      let whole = take_all (length word) (b ∷ content) (omega (arith, long)) in
      let begins : begins_with word (b ∷ content) ≡ true = rw whole is in
      has_word-behind (40 ∷ []) ((b ∷ content) ++ (41 ∷ []))
      (has_word-front (b ∷ content) (41 ∷ []) (or_left _ _ begins))
  token_has Word content h is = absurd (cc)

  keyword_stands :
      (line rest : List ℕ) (token : TokenText) → token_at line ≡ Ok (Some (token, rest))
      → is_keyword word token ≡ true → has_word word line ≡ true
  keyword_stands line rest token e is =
      let front = token_at-front line rest token e in
      subst (λ text. has_word word text ≡ true) (sym front.whole)
      (has_word-behind (take_while is_blank line) (token_text token ++ rest)
      (has_word-front (token_text token) rest (token_has token.kind token.content front.content is)))

-- ---- lines without the keyword

abbrev told_by : List ℕ
told_by = codes "SEQ_FRAME_RATE"

no_token : (line : List ℕ) → whole_token line ≡ None → rate_of_line line ≡ None
unfolding rate_of_line
no_token line e = rw e refl

other_token :
    (line rest : List ℕ) (token : TokenText) → whole_token line ≡ Some (token, rest)
    → is_keyword told_by token ≡ false → rate_of_line line ≡ None
unfolding rate_of_line
other_token line rest token e other = rw (e, other) refl

untold_line : (line : List ℕ) → has_word told_by line ≡ false → rate_of_line line ≡ None
untold_line line h = by_token (token_at line) refl where
  by_test :
      (token : TokenText) (rest : List ℕ) → token_at line ≡ Ok (Some (token, rest)) → (is : Bool)
      → is_keyword told_by token ≡ is → rate_of_line line ≡ None
  by_test token rest e true f = absurd (let stands = keyword_stands told_by line rest token e f in cc)
  by_test token rest e false f = other_token line rest token (rw e refl) f

  by_token : (next : Result (Option Cut) TextFault) → token_at line ≡ next → rate_of_line line ≡ None
  by_token (Err fault) e = no_token line (rw e refl)
  by_token (Ok None) e = no_token line (rw e refl)
  by_token (Ok (Some (token, rest))) e = by_test token rest e (is_keyword told_by token) refl

untold_in : (o : Outline) (line : List ℕ) → has_word told_by line ≡ false → rate_in o line ≡ None
untold_in o line h = rw (untold_line line h) (neither (is_in_sequence o line)) where
  neither : (here : Bool) → ◌≡◌ {A = Option ℕ} (if here then None else None) None
  neither true = refl
  neither false = refl

untold_stop :
    (o : Outline) (text : List ℕ) (lines : List (List ℕ)) → rate_in o text ≡ None → passed o text ≡ None
    → rate_from o (text ∷ lines) ≡ 25
unfolding rate_from
untold_stop o text lines e f = rw (e, f, rate_from)

untold_from :
    (lines : List (List ℕ)) (o : Outline) → list_all (λ line. not (has_word told_by line)) lines ≡ true
    → rate_from o lines ≡ 25
unfolding rate_from
untold_from [] o h = refl
untold_from (text ∷ lines) o h =
    by_next (passed o text) refl (λ next. untold_from lines next (and_right (not (has_word told_by text)) _ h)) where
      none : rate_in o text ≡ None
      none = untold_in o text (not-true _ (and_left (not (has_word told_by text)) _ h))

      by_next :
          (found : Option Outline) → passed o text ≡ found → ((next : Outline) → rate_from next lines ≡ 25)
          → rate_from o (text ∷ lines) ≡ 25
      by_next None f ih = untold_stop o text lines none f
      by_next (Some next) f ih = rate_from-next o next text lines none f ∙ ih next

pub rate_of-untold : (text : List ℕ) → has_word told_by text ≡ false → rate_of text ≡ 25
unfolding rate_of
rate_of-untold text h =
    let lines = has_lines text in
    untold_from (lines_of text) nothing_passed
    (rw lines.lines_are (lines_lack told_by lines.cut (mark_lacks told_by text h)))

-- ---- a text whose first line is misplaced

pub rate_of-stopped :
    (text line : List ℕ) (lines : List (List ℕ)) → lines_of text ≡ line ∷ lines → passed nothing_passed line ≡ None
    → rate_of text ≡ 25
unfolding rate_of
rate_of-stopped text line lines e f = rw e (untold_stop nothing_passed line lines refl f)

pub rate_of-unpassed :
    {X : Type 0} (outline : X → Outline) (text line : List ℕ) (lines : List (List ℕ)) (o : Outline) (next : Option X)
    → lines_of text ≡ line ∷ lines → o ≡ nothing_passed → option_map outline next ≡ passed o line
    → is_some next ≡ false → rate_of text ≡ 25
rate_of-unpassed outline text line lines o None e new is fails =
    rate_of-stopped text line lines e (subst (λ o. passed o line ≡ None) new (sym is))
rate_of-unpassed outline text line lines o (Some next) e new is fails = absurd (cc)

pub rate_of-nothing : (text : List ℕ) → lines_of text ≡ [] → rate_of text ≡ 25
unfolding rate_of rate_from
rate_of-nothing text e = rw e refl

-- ---- the search for the first letter

other_letter : (b : ℕ) → (b == 83 || b == 115) ≡ false → (to_ascii_lowercase b == 115) ≡ false
other_letter b h = grind (arith, nat_tests)

skipped :
    (text : List ℕ) (k : ℕ) → ((i : ℕ) → i < k → ¬ Passes (is_byte2 83 115) text i)
    → has_word told_by (drop k text) ≡ has_word told_by text
skipped text zero none = refl
skipped [] (suc k) none = refl
skipped (b ∷ text) (suc k) none =
    let other = other_letter b (false_from_ne_true _ (none 0 (omega arith))) in
    skipped text k (λ i below. none (suc i) (omega arith)) ∙ sym (rw other refl)

pub from_letter :
    (text : List ℕ) (k : ℕ) → NoneBefore (Passes (is_byte2 83 115) text) 0 (length text) k
    → has_word told_by (drop k text) ≡ has_word told_by text
from_letter text k first = skipped text k (λ i below. first.before i (omega arith) below)

pub no_letter :
    (text : List ℕ) → Nowhere (Passes (is_byte2 83 115) text) 0 (length text) → false ≡ has_word told_by text
no_letter text nowhere =
    ap (has_word told_by) (sym (drop_all (length text) text (omega arith)))
    ∙ skipped text (length text) (λ i below. nowhere i (omega arith) below)
