-- Laws of tokens: the text of a token is cut as that token, and a token that was cut has the text of its kind.
use Rattle.std.specs.Prelude.{◌≡◌, ℕ, ◌==◌, not, Bool, true, false, List, [], ◌∷◌, ◌++◌, drop, length, Option, Some, Result, Ok, Err, refl}
use Rattle.std.specs.List.{list_all, prefix_len, take_while}
use Rattle.std.proofs.Common.{sym, subst, ap, ◌∙◌, append_assoc, arith}
use Rattle.std.proofs.lemmas.Bool.Decides.{nat_tests}
use Rattle.std.proofs.lemmas.List.{drop_at, take_at}
use Rattle.std.proofs.lemmas.List.Folds.{list_all-append}
use Rattle.facts.specs.Prefixes.{drop_more, list_all-take_while, take_more, take_while-drop}
use Rattle.facts.specs.Tests.{and_left, and_right}
use Rattle.list_terms.specs.declared.TokenKind.{TokenKind}
use Rattle.list_terms.specs.declared.TokenKind.TheVariants.{Quoted, Keyword, Word}
use Rattle.list_terms.specs.declared.TextFault.{TextFault}
use Rattle.list_terms.specs.Tokens.{TokenText, Cut, is_blank, is_quoted_byte, is_word_byte, byte_fault, open_fault, closed, keyword, quoted, token_from, token_at, token_text, behind_blanks}

-- A nonempty run of word bytes.
abbrev pub is_word : List ℕ → Bool
is_word [] = false
is_word (first ∷ rest) = list_all is_word_byte (first ∷ rest)

-- The bytes allowed inside a token of this kind.
abbrev pub is_content : TokenKind → List ℕ → Bool
is_content Quoted content = list_all is_quoted_byte content
is_content Keyword content = is_word content
is_content Word content = is_word content

-- The text doesn't start with a byte that passes the test.
abbrev pub stops : (ℕ → Bool) → List ℕ → Bool
stops test [] = true
stops test (byte ∷ rest) = not (test byte)

pub prefix_len-stop :
    (test : ℕ → Bool) (content rest : List ℕ) → list_all test content ≡ true → stops test rest ≡ true
    → length content ≡ prefix_len test (content ++ rest)
prefix_len-stop test [] [] h s = refl
prefix_len-stop test [] (b ∷ rest) h s = grind (arith, nat_tests)
prefix_len-stop test (c ∷ content) rest h s = grind (arith, nat_tests, prefix_len-stop test content rest)

-- A space in front is skipped.
pub token_at-space : (line : List ℕ) → token_at (32 ∷ line) ≡ token_at line
unfolding token_at
token_at-space line = ap token_from (drop_more (prefix_len is_blank line) 32 line)

pub token_at-quoted :
    (content rest : List ℕ) → list_all is_quoted_byte content ≡ true
    → token_at (34 ∷ (content ++ (34 ∷ rest))) ≡ Ok (Some (record { kind = Quoted; content = content }, rest))
unfolding token_at
token_at-quoted content rest h =
    let at = prefix_len-stop is_quoted_byte content (34 ∷ rest) h refl in
    let end = prefix_len is_quoted_byte (content ++ (34 ∷ rest)) in
    rw (take_at content (34 ∷ rest) end at, drop_at content (34 ∷ rest) end at)

pub token_at-keyword :
    (first : ℕ) (content rest : List ℕ) → list_all is_word_byte (first ∷ content) ≡ true
    → token_at (40 ∷ ((first ∷ content) ++ (41 ∷ rest)))
    ≡ Ok (Some (record { kind = Keyword; content = first ∷ content }, rest))
unfolding token_at
token_at-keyword first content rest h =
    let at = prefix_len-stop is_word_byte (first ∷ content) (41 ∷ rest) h refl in
    let end = prefix_len is_word_byte ((first ∷ content) ++ (41 ∷ rest)) in
    rw (take_at (first ∷ content) (41 ∷ rest) end at, drop_at (first ∷ content) (41 ∷ rest) end at)

pub token_at-word :
    (first : ℕ) (content rest : List ℕ) → list_all is_word_byte (first ∷ content) ≡ true
    → stops is_word_byte rest ≡ true
    → token_at ((first ∷ content) ++ rest) ≡ Ok (Some (record { kind = Word; content = first ∷ content }, rest))
unfolding token_at
token_at-word first content rest h s =
    let at = prefix_len-stop is_word_byte (first ∷ content) rest h s in
    let end = prefix_len is_word_byte ((first ∷ content) ++ rest) in
    let word : is_word_byte first ≡ true = grind (arith, nat_tests) in
    let blank : is_blank first ≡ false = grind (arith, nat_tests) in
    let quote : (first == 34) ≡ false = grind (arith, nat_tests) in
    let parenthesis : (first == 40) ≡ false = grind (arith, nat_tests) in
    rw (blank, take_at (first ∷ content) rest end at, drop_at (first ∷ content) rest end at, word, quote, parenthesis)

-- A word extends as far as possible: no further word byte may follow it.
abbrev pub ends_token : TokenKind → List ℕ → Bool
ends_token Quoted rest = true
ends_token Keyword rest = true
ends_token Word rest = stops is_word_byte rest

-- The text of a token is cut as that token.
pub token_at-text :
    (kind : TokenKind) (content rest : List ℕ) → is_content kind content ≡ true → ends_token kind rest ≡ true
    → token_at (token_text (record { kind = kind; content = content }) ++ rest)
    ≡ Ok (Some (record { kind = kind; content = content }, rest))
token_at-text Quoted content rest h s = rw append_assoc (token_at-quoted content rest h)
token_at-text Keyword [] rest h s = absurd (cc)
token_at-text Keyword (first ∷ content) rest h s = rw append_assoc (token_at-keyword first content rest h)
token_at-text Word [] rest h s = absurd (cc)
token_at-text Word (first ∷ content) rest h s = token_at-word first content rest h s

-- The text of a token is cut as that token if no word byte follows.
pub token_at-token_text :
    (kind : TokenKind) (content rest : List ℕ) → is_content kind content ≡ true → stops is_word_byte rest ≡ true
    → token_at (token_text (record { kind = kind; content = content }) ++ rest)
    ≡ Ok (Some (record { kind = kind; content = content }, rest))
token_at-token_text kind content rest h s = token_at-text kind content rest h (ends kind) where
  ends : (kind : TokenKind) → ends_token kind rest ≡ true
  ends Quoted = refl
  ends Keyword = refl
  ends Word = s

-- ---- tokens that were cut

stops-drop : (test : ℕ → Bool) (text : List ℕ) → stops test (drop (prefix_len test text) text) ≡ true
stops-drop test [] = refl
stops-drop test (b ∷ text) = by_test (test b) refl (stops-drop test text) where
  by_test :
      (passes : Bool) → test b ≡ passes → stops test (drop (prefix_len test text) text) ≡ true
      → stops test (drop (prefix_len test (b ∷ text)) (b ∷ text)) ≡ true
  by_test true e ih = rw (e, drop_more (prefix_len test text) b text) ih
  by_test false e ih = rw (e, e) refl

same_byte : (a b : ℕ) → (a == b) ≡ true → a ≡ b
same_byte a b h = grind (arith, nat_tests)

-- A line that is a token followed by the rest.
record IsFront (line : List ℕ) (token : TokenText) (rest : List ℕ) : Type 0 where
  whole : line ≡ token_text token ++ rest
  content : is_content token.kind token.content ≡ true
  ends : ends_token token.kind rest ≡ true

module _ (token : TokenText) (rest : List ℕ) where
  front_as :
      (kind : TokenKind) (content behind : List ℕ) → is_content kind content ≡ true → ends_token kind behind ≡ true
      → let cut : Result (Option Cut) TextFault = Ok (Some (record { kind = kind; content = content }, behind)) in
      cut ≡ Ok (Some (token, rest)) → IsFront
      (token_text (record { kind = kind; content = content }) ++ behind) token rest
  front_as kind content behind is ends e =
      let known : TokenText = record { kind = kind; content = content } in
      let pair : (known, behind) ≡ (token, rest) = cc in
      let same : known ≡ token = ap (λ (c : Cut). c.0) pair in
      let same_rest : behind ≡ rest = ap (λ (c : Cut). c.1) pair in
      rw (← same, ← same_rest) (record { whole = refl; content = is; ends = ends })

  closed-front :
      (kind : TokenKind) (close : ℕ) (content behind : List ℕ) → is_content kind content ≡ true
      → ((text : List ℕ) → ends_token kind text ≡ true)
      → closed kind close content behind ≡ Ok (Some (token, rest))
      → (text : List ℕ) ×
      ((behind ≡ close ∷ text) × IsFront
      (token_text (record { kind = kind; content = content }) ++ text) token rest)
  closed-front kind close content [] is ends e = absurd (cc)
  closed-front kind close content (byte ∷ behind) is ends e = by_test (byte == close) refl where
    by_test : (closes : Bool) → (byte == close) ≡ closes
        → (text : List ℕ) ×
        ((byte ∷ behind ≡ close ∷ text) × IsFront
        (token_text (record { kind = kind; content = content }) ++ text) token rest)
    by_test true c = (
      behind,
      (
        ap (λ b. b ∷ behind) (same_byte byte close c),
        front_as kind content behind is (ends behind)
            (rw c at e),
      ),
    )
    by_test false c =
        let no : closed kind close content (byte ∷ behind) ≡ Err (byte_fault byte) = rw c refl in absurd (cc)

  quoted-front : (line : List ℕ) → quoted line ≡ Ok (Some (token, rest)) → IsFront (34 ∷ line) token rest
  quoted-front line e =
      by_close (closed-front Quoted 34 (take_while is_quoted_byte line) (drop (prefix_len is_quoted_byte line) line)
      (list_all-take_while is_quoted_byte line) (λ text. refl) e) where
        by_close : (text : List ℕ) × ((drop (prefix_len is_quoted_byte line) line ≡ 34 ∷ text)
            × IsFront (token_text (record { kind = Quoted; content = take_while is_quoted_byte line }) ++ text) token
            rest) → IsFront (34 ∷ line) token rest
        by_close (text, (d, front)) =
            let all : 34 ∷ line ≡ token_text (record { kind = Quoted; content = take_while is_quoted_byte line }) ++
            text =
            rw append_assoc
            (ap (λ t. 34 ∷ t) (take_while-drop is_quoted_byte line ∙ ap (λ t. take_while is_quoted_byte line ++ t) d))
            in
            record { whole = all ∙ front.whole; content = front.content; ends = front.ends }

  keyword-front : (line : List ℕ) → keyword line ≡ Ok (Some (token, rest)) → IsFront (40 ∷ line) token rest
  keyword-front line e =
      by_content (take_while is_word_byte line) refl (list_all-take_while is_word_byte line) where
        by_content :
            (content : List ℕ) → take_while is_word_byte line ≡ content → list_all is_word_byte content ≡ true
            → IsFront (40 ∷ line) token rest
        by_content [] c is =
            let no : keyword line ≡ Err (open_fault (drop (prefix_len is_word_byte line) line)) =
            rw c refl in absurd (cc)
        by_content (first ∷ content) c is =
            by_close (closed-front Keyword 41 (first ∷ content) (drop (prefix_len is_word_byte line) line) is
            (λ text. refl) (sym (rw c refl) ∙ e)) where
              by_close : (text : List ℕ) × ((drop (prefix_len is_word_byte line) line ≡ 41 ∷ text)
                  × IsFront (token_text (record { kind = Keyword; content = first ∷ content }) ++ text) token rest)
                  → IsFront (40 ∷ line) token rest
              by_close (text, (d, front)) =
                  let cut : line ≡ (first ∷ content) ++ (41 ∷ text) =
                  take_while-drop is_word_byte line ∙ rw (c, d) refl in
                  let all : 40 ∷ line ≡ token_text (record { kind = Keyword; content = first ∷ content }) ++ text =
                  rw append_assoc (ap (λ t. 40 ∷ t) cut) in
                  record { whole = all ∙ front.whole; content = front.content; ends = front.ends }

  token_from-front : (line : List ℕ) → token_from line ≡ Ok (Some (token, rest)) → IsFront line token rest
  token_from-front [] e = absurd (cc)
  token_from-front (byte ∷ line) e = by_tests (byte == 34) refl (byte == 40) refl (is_word_byte byte) refl where
    by_tests :
        (quote : Bool) → (byte == 34) ≡ quote → (parenthesis : Bool) → (byte == 40) ≡ parenthesis
        → (begins : Bool) → is_word_byte byte ≡ begins → IsFront (byte ∷ line) token rest
    by_tests true q p f w g = rw (same_byte byte 34 q) (quoted-front line (rw q at e))
    by_tests false q true f w g = rw (same_byte byte 40 f) (keyword-front line (rw (q, f) at e))
    by_tests false q false f true g =
        let content = take_while is_word_byte (byte ∷ line) in
        let behind = drop (prefix_len is_word_byte (byte ∷ line)) (byte ∷ line) in
        let is : is_word content ≡ true = rw (g, take_more (prefix_len is_word_byte line) byte line, g)
        (list_all-take_while is_word_byte line) in
        let front = front_as Word content behind is (stops-drop is_word_byte (byte ∷ line))
        (sym (rw (g, q, f) refl) ∙ e) in
        record {
          whole = take_while-drop is_word_byte (byte ∷ line) ∙ front.whole;
          content = front.content;
          ends = front.ends;
        }
    by_tests false q false f false g =
        let no : token_from (byte ∷ line) ≡ Err (byte_fault byte) = rw (g, q, f) refl in absurd (cc)

-- A line that is blanks, a token, and the rest.
pub record IsTokenFront (line : List ℕ) (token : TokenText) (rest : List ℕ) : Type 0 where
  pub whole : line ≡ take_while is_blank line ++ (token_text token ++ rest)
  pub content : is_content token.kind token.content ≡ true
  pub ends : ends_token token.kind rest ≡ true

-- A token that was cut has the text of its kind.
pub token_at-front :
    (line rest : List ℕ) (token : TokenText) → token_at line ≡ Ok (Some (token, rest)) → IsTokenFront line token rest
unfolding token_at
token_at-front line rest token e =
    let front = token_from-front token rest (behind_blanks line) e in
    record {
      whole = take_while-drop is_blank line ∙ ap (λ t. take_while is_blank line ++ t) front.whole;
      content = front.content;
      ends = front.ends;
    }

-- Bytes that pass a test pass a weaker one.
pub all_weaker :
    (p q : ℕ → Bool) → ((b : ℕ) → p b ≡ true → q b ≡ true) → (text : List ℕ) → list_all p text ≡ true
    → list_all q text ≡ true
all_weaker p q each [] h = refl
all_weaker p q each (b ∷ text) h =
    rw (each b (and_left (p b) (list_all p text) h)) (all_weaker p q each text (and_right (p b) (list_all p text) h))

-- A token and the rest of its line, cut from a text whose bytes all pass a test.
pub record IsCut (test : ℕ → Bool) (token : TokenText) (rest : List ℕ) : Type 0 where
  pub content : is_content token.kind token.content ≡ true
  pub inside : list_all test token.content ≡ true
  pub behind : list_all test rest ≡ true

all_front : (test : ℕ → Bool) (a b : List ℕ) → list_all test (a ++ b) ≡ true → list_all test a ≡ true
all_front test a b h = and_left (list_all test a) (list_all test b) (sym (list_all-append test a b) ∙ h)

all_behind : (test : ℕ → Bool) (a b : List ℕ) → list_all test (a ++ b) ≡ true → list_all test b ≡ true
all_behind test a b h = and_right (list_all test a) (list_all test b) (sym (list_all-append test a b) ∙ h)

inside_text :
    (test : ℕ → Bool) (kind : TokenKind) (content : List ℕ)
    → list_all test (token_text (record { kind = kind; content = content })) ≡ true → list_all test content ≡ true
inside_text test Quoted content h = all_front test content (34 ∷ []) (and_right (test 34) _ h)
inside_text test Keyword content h = all_front test content (41 ∷ []) (and_right (test 40) _ h)
inside_text test Word content h = h

pub token_at-cut :
    (test : ℕ → Bool) (line rest : List ℕ) (token : TokenText) → list_all test line ≡ true
    → token_at line ≡ Ok (Some (token, rest)) → IsCut test token rest
token_at-cut test line rest token all e =
    let front = token_at-front line rest token e in
    let own = all_behind test (take_while is_blank line) (token_text token ++ rest)
    (subst (λ text. list_all test text ≡ true) front.whole all) in
    record {
      content = front.content;
      inside = inside_text test token.kind token.content (all_front test (token_text token) rest own);
      behind = all_behind test (token_text token) rest own;
    }
