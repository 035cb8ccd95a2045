-- The texts of a source that was read: its URL can be quoted, and its identifier is one token.
use Rattle.std.proofs.Common.{◌≡◌, ℕ, length, true, List, [], ◌∷◌, Ok, refl, ap, sym, ◌∙◌, arith}
use Rattle.std.specs.Prelude.{codes, is_some, ◌&&◌}
use Rattle.std.specs.List.{list_all}
use Rattle.std.proofs.lemmas.Bool.Decides.{nat_tests}
use Rattle.std.proofs.lemmas.List.{append-nil}
use Rattle.std.proofs.lemmas.Slice.Eq.{bytes_eq-Decides}
use Rattle.facts.specs.Lists.{all_push}
use Rattle.facts.specs.Tests.{and_both, and_left, and_right}
use Rattle.list_terms.specs.declared.TextFault.TheVariants.{BadUrl}
use Rattle.list_terms.specs.declared.TokenKind.{TokenKind}
use Rattle.list_terms.specs.declared.TokenKind.TheVariants.{Quoted, Keyword, Word}
use Rattle.list_terms.specs.EntryLines.{source_fields}
use Rattle.list_terms.specs.FormLaws.{found, is_numbered}
use Rattle.list_terms.specs.Forms.{Field, Then, Identifier, MayTime, Number, Url, Value, any, keyword, reads, value_at, value_of}
use Rattle.list_terms.specs.Names.{place_of_url}
use Rattle.list_terms.specs.Project.{Source}
use Rattle.list_terms.specs.ReadingLaws.{IsNamed}
use Rattle.list_terms.specs.StepLaws.{chain, if_ok, ok_same}
use Rattle.list_terms.specs.Tokens.{TokenText, all_tokens, is_quoted_byte, is_word_byte, token_at, token_text}
use Rattle.list_terms.specs.TokenLaws.{all_weaker, is_content, is_word, token_at-cut, token_at-token_text}
use Rattle.list_terms.specs.WholeProject.{has_whole_texts, is_line_byte, is_one_token, is_quotable}

-- ---- fields of a line without LF

abbrev IsText : List ℕ → Type 0
IsText text = list_all is_line_byte text ≡ true

-- A field of a line without LF: neither its token nor the rest contains LF.
record IsInside (f : Field) (next : Value f × List ℕ) : Type 0 where
  token : TokenText
  inside : IsText token.content
  content : is_content token.kind token.content ≡ true
  is : value_of f token ≡ Ok next.0
  rest_is : IsText next.1

inside : (f : Field) (line : List ℕ) → IsText line → (next : Value f × List ℕ) → value_at f line ≡ Ok next → IsInside f next
inside f line h next e =
    let x = found f line next e in
    let cut = token_at-cut is_line_byte line next.1 x.token h x.at in
    record { token = x.token; inside = cut.inside; content = cut.content; is = x.is; rest_is = cut.behind }

-- ---- the URL and the identifier

word_is_quotable : (text : List ℕ) → is_word text ≡ true → list_all is_quoted_byte text ≡ true
word_is_quotable [] h = absurd (cc)
word_is_quotable (b ∷ text) h = all_weaker is_word_byte is_quoted_byte (λ c e. grind (arith, nat_tests)) (b ∷ text) h

content_is_quotable :
    (kind : TokenKind) (content : List ℕ) → is_content kind content ≡ true → list_all is_quoted_byte content ≡ true
content_is_quotable Quoted content h = h
content_is_quotable Keyword content h = word_is_quotable content h
content_is_quotable Word content h = word_is_quotable content h

both_bytes : (text : List ℕ) → list_all is_quoted_byte text ≡ true → IsText text → list_all is_quotable text ≡ true
both_bytes [] h k = refl
both_bytes (b ∷ text) h k =
    rw (
      and_left (is_quoted_byte b) (list_all is_quoted_byte text) h,
      and_left (is_line_byte b) (list_all is_line_byte text) k,
    )
    (both_bytes text (and_right (is_quoted_byte b) (list_all is_quoted_byte text) h)
    (and_right (is_line_byte b) (list_all is_line_byte text) k))

text_is_line :
    (kind : TokenKind) (content : List ℕ) → IsText content
    → IsText (token_text (record { kind = kind; content = content }))
text_is_line Quoted content h = all_push is_line_byte content 34 h refl
text_is_line Keyword content h = all_push is_line_byte content 41 h refl
text_is_line Word content h = h

text_is_one_token :
    (token : TokenText) → is_content token.kind token.content ≡ true → is_one_token (token_text token) ≡ true
text_is_one_token token h =
    let again =
    ap token_at (sym (append-nil (token_text token))) ∙ token_at-token_text token.kind token.content [] h refl in
    rw again ((bytes_eq-Decides (token_text token) (token_text token)).1 refl)

url_is_quotable : (next : List ℕ × List ℕ) → IsInside Url next → list_all is_quotable next.0 ≡ true
url_is_quotable next h =
    let passed = if_ok (is_some (place_of_url h.token.content)) h.token.content BadUrl next.0 h.is in
    rw (← passed.1) (both_bytes h.token.content (content_is_quotable h.token.kind h.token.content h.content) h.inside)

uid_is_one_token :
    (next : List ℕ × List ℕ) → IsInside Identifier next
    → (list_all is_line_byte next.0 && is_one_token next.0) ≡ true
uid_is_one_token next h =
    let same : token_text h.token ≡ next.0 = ok_same _ _ h.is in
    rw (← same) (and_both (list_all is_line_byte (token_text h.token)) (is_one_token (token_text h.token))
    (text_is_line h.token.kind h.token.content h.inside) (text_is_one_token h.token h.content))

abbrev HasTexts : Source → Type 0
HasTexts source = has_whole_texts source ≡ true

module _ (rate : ℕ) where
  source_has_texts : (n : ℕ) (line : List ℕ) → IsText line → (source : Source)
      → reads (source_fields rate n) line ≡ Ok source → HasTexts source
  unfolding reads
  source_has_texts n line h source e =
      let f = chain (value_at (keyword (codes "F")) line) _ source e in
      let file = inside (keyword (codes "F")) line h f.value f.is in
      let u = chain (value_at Url f.value.1) _ source f.others in
      let url = inside Url f.value.1 file.rest_is u.value u.is in
      let i = chain (value_at Identifier u.value.1) _ source u.others in
      let uid = inside Identifier u.value.1 url.rest_is i.value i.is in
      let b = chain (value_at (MayTime rate) i.value.1) _ source i.others in
      let l = chain (value_at (MayTime rate) b.value.1) _ source b.others in
      let d = chain (all_tokens any (length l.value.1) l.value.1) _ source l.others in
      rw (← ok_same _ _ d.others)
      (and_both (list_all is_quotable u.value.0) _ (url_is_quotable u.value url) (uid_is_one_token i.value uid))

  pub named_has_texts :
      (text : List ℕ) → IsText text → (source : Source)
      → IsNamed (codes "Index") (Then Number (source_fields rate)) text source → HasTexts source
  named_has_texts text whole source h =
      let behind = (token_at-cut is_line_byte text h.rest h.keyword whole h.at).behind in
      let f = is_numbered (source_fields rate) h.rest source h.says in
      let number = inside Number h.rest behind (f.number, f.rest) f.numbered in
      source_has_texts f.number f.rest number.rest_is source f.says
