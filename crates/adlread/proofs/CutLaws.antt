-- A line is a sequence of tokens exactly if its tokens can be cut one after another.
use Rattle.std.proofs.Common.{◌≡◌, ℕ, ◌<◌, Bool, true, false, List, [], ◌∷◌, ◌++◌, length, drop, None, Some, Ok, Err, refl, ap, sym, ◌∙◌, length-append, arith}
use Rattle.std.specs.Prelude.{◌==◌}
use Rattle.std.specs.List.{list_all, prefix_len, take_while}
use Rattle.std.proofs.lemmas.List.{append-nil}
use Rattle.facts.specs.Prefixes.{drop_more, list_all-take_while, take_while-drop}
use Rattle.facts.specs.Tests.{and_left, and_right}
use Rattle.list_terms.specs.declared.TokenKind.{TokenKind}
use Rattle.list_terms.specs.declared.TokenKind.TheVariants.{Quoted, Keyword}
use Rattle.list_terms.specs.Tokens.{TokenText, behind_blanks, byte_fault, closed, is_blank, is_quoted_byte, is_word_byte, keyword, open_fault, token_at, token_from, token_text, word}
pub use Rattle.list_terms.specs.EndLaws.{one_byte, rest_shorter}
use Rattle.list_terms.specs.TokenLaws.{token_at-front, token_at-text}
use Rattle.adlread.specs.CutLines.{CutsTo, OnlyBlanks, NextToken}
use Rattle.adlread.proofs.TokenRun.{token_at-nil}

-- ---- a sequence of tokens can be cut

behind_blanks-front :
    (blanks line : List ℕ) → list_all is_blank blanks ≡ true → behind_blanks (blanks ++ line) ≡ behind_blanks line
behind_blanks-front [] line h = refl
behind_blanks-front (b ∷ blanks) line h =
    rw (and_left (is_blank b) (list_all is_blank blanks) h)
    (drop_more (prefix_len is_blank (blanks ++ line)) b (blanks ++ line)
    ∙ behind_blanks-front blanks line (and_right (is_blank b) (list_all is_blank blanks) h))

token_at-blanks : (blanks line : List ℕ) → list_all is_blank blanks ≡ true → token_at (blanks ++ line) ≡ token_at line
unfolding token_at
token_at-blanks blanks line h = ap token_from (behind_blanks-front blanks line h)

-- The first token of a line, and the tokens of the rest.
pub record IsCutBehind (line : List ℕ) (token : TokenText) (tokens : List TokenText) : Type 0 where
  pub rest : List ℕ
  pub at : token_at line ≡ Ok (Some (token, rest))
  pub cut : CutsTo rest tokens
  pub shorter : length rest < length line

pub first_cut :
    {line : List ℕ} {token : TokenText} {tokens : List TokenText} → CutsTo line (token ∷ tokens)
    → IsCutBehind line token tokens
first_cut (NextToken blanks token rest tokens b c e cut) = record {
  rest = rest;
  at = token_at-blanks blanks (token_text token ++ rest) b ∙ token_at-text token.kind token.content rest c e;
  cut = cut;
  shorter = let some = one_byte token.kind token.content c in
      omega (arith, length-append blanks (token_text token ++ rest), length-append (token_text token) rest);
}

pub no_cut : {line : List ℕ} → CutsTo line [] → token_at line ≡ Ok None
no_cut (OnlyBlanks blanks b) = ap token_at (sym (append-nil blanks)) ∙ token_at-blanks blanks [] b ∙ token_at-nil

-- ---- tokens that were cut are a sequence

closed-some :
    (kind : TokenKind) (close : ℕ) (content behind : List ℕ) → closed kind close content behind ≡ Ok None → ⊥
closed-some kind close content [] e = absurd (cc)
closed-some kind close content (byte ∷ behind) e = by_test (byte == close) refl where
  by_test : (closes : Bool) → (byte == close) ≡ closes → ⊥
  by_test true c =
      let some : closed kind close content (byte ∷ behind)
      ≡ Ok (Some (record { kind = kind; content = content }, behind)) = rw c refl in absurd (cc)
  by_test false c =
      let no : closed kind close content (byte ∷ behind) ≡ Err (byte_fault byte) = rw c refl in absurd (cc)

keyword-some : (line : List ℕ) → keyword line ≡ Ok None → ⊥
keyword-some line e = by_content (take_while is_word_byte line) refl where
  by_content : (content : List ℕ) → take_while is_word_byte line ≡ content → ⊥
  by_content [] c =
      let no : keyword line ≡ Err (open_fault (drop (prefix_len is_word_byte line) line)) = rw c refl in absurd (cc)
  by_content (first ∷ content) c =
      closed-some Keyword 41 (first ∷ content) (drop (prefix_len is_word_byte line) line) (sym (rw c refl) ∙ e)

token_from-none : (line : List ℕ) → token_from line ≡ Ok None → line ≡ []
token_from-none [] e = refl
token_from-none (byte ∷ line) e = by_tests (byte == 34) refl (byte == 40) refl (is_word_byte byte) refl where
  by_tests :
      (quote : Bool) → (byte == 34) ≡ quote → (parenthesis : Bool) → (byte == 40) ≡ parenthesis
      → (begins : Bool) → is_word_byte byte ≡ begins → byte ∷ line ≡ []
  by_tests true q p f w g =
      absurd (closed-some Quoted 34 (take_while is_quoted_byte line) (drop (prefix_len is_quoted_byte line) line)
      (rw q at e))
  by_tests false q true f w g = absurd (keyword-some line (rw (q, f) at e))
  by_tests false q false f true g =
      let some : token_from (byte ∷ line) ≡ Ok (Some (word (byte ∷ line))) = rw (g, q, f) refl in absurd (cc)
  by_tests false q false f false g =
      let no : token_from (byte ∷ line) ≡ Err (byte_fault byte) = rw (g, q, f) refl in absurd (cc)

pub cut_next :
    (line rest : List ℕ) (token : TokenText) (tokens : List TokenText) → token_at line ≡ Ok (Some (token, rest))
    → CutsTo rest tokens
    → CutsTo line (token ∷ tokens)
cut_next line rest token tokens e cut =
    let front = token_at-front line rest token e in
    rw front.whole (NextToken (take_while is_blank line) token rest tokens
    (list_all-take_while is_blank line) front.content front.ends cut)

pub cut_none : (line : List ℕ) → token_at line ≡ Ok None → CutsTo line []
unfolding token_at
cut_none line e =
    let blanks = take_while is_blank line in
    let whole : line ≡ blanks = take_while-drop is_blank line
    ∙ ap (λ t. blanks ++ t) (token_from-none (behind_blanks line) e) ∙ append-nil blanks in
    rw whole (OnlyBlanks blanks (list_all-take_while is_blank line))
