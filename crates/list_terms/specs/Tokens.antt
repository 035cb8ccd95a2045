-- The tokens of a line: quoted text, keywords in parentheses, and words, separated by any number of spaces and
-- tabs.
use Rattle.std.specs.Prelude.{ℕ, zero, suc, ◌-◌, ◌==◌, ◌&&◌, ◌||◌, not, nat_lt, nat_le, Bool, List, [], ◌∷◌, ◌++◌, take, drop, length, Option, None, Some, Result, Ok, Err, if◌then◌else◌}
use Rattle.std.specs.List.{prefix_len, take_while, suffix_len}
use Rattle.list_terms.specs.declared.TokenKind.{TokenKind}
use Rattle.list_terms.specs.declared.TokenKind.TheVariants.{Quoted, Keyword, Word}
use Rattle.list_terms.specs.declared.TextFault.{TextFault}
use Rattle.list_terms.specs.declared.TextFault.TheVariants.{BadByte, BadLine, Unsupported}

-- A token: its kind, and its content without quotes or parentheses.
pub record TokenText : Type 0 where
  pub kind : TokenKind
  pub content : List ℕ

-- The text of a token as written in its line.
abbrev pub token_text : TokenText → List ℕ
token_text token = text_of token.kind where
  text_of : TokenKind → List ℕ
  text_of Quoted = 34 ∷ (token.content ++ (34 ∷ []))
  text_of Keyword = 40 ∷ (token.content ++ (41 ∷ []))
  text_of Word = token.content

-- A space or a tab.
abbrev pub is_blank : ℕ → Bool
is_blank byte = byte == 32 || byte == 9

-- Printable ASCII, a space or a tab.
abbrev pub is_text_byte : ℕ → Bool
is_text_byte byte = (nat_le 32 byte && nat_lt byte 127) || byte == 9

-- A byte of words and keywords: printable ASCII except space, quotation mark and parentheses.
abbrev pub is_word_byte : ℕ → Bool
is_word_byte byte = nat_lt 32 byte && nat_lt byte 127 && not (byte == 34 || byte == 40 || byte == 41)

-- A byte of quoted text: any byte except the quotation mark and CR.
abbrev pub is_quoted_byte : ℕ → Bool
is_quoted_byte byte = not (byte == 34 || byte == 13)

-- The fault of a byte that isn't allowed in its place.
abbrev pub byte_fault : ℕ → TextFault
byte_fault byte = if is_text_byte byte then BadLine else BadByte

-- The fault of an unfinished token: an invalid byte, or the end of the line.
abbrev pub open_fault : List ℕ → TextFault
open_fault [] = BadLine
open_fault (byte ∷ rest) = byte_fault byte

-- A token and the rest of its line.
abbrev pub Cut : Type 0
Cut = TokenText × List ℕ

-- A token with this content, if its closing byte follows.
abbrev pub closed : TokenKind → ℕ → List ℕ → List ℕ → Result (Option Cut) TextFault
closed kind close content [] = Err BadLine
closed kind close content (byte ∷ rest) =
    if byte == close then Ok (Some (record { kind = kind; content = content }, rest)) else Err (byte_fault byte)

-- Quoted text, starting after its opening quotation mark.
abbrev pub quoted : List ℕ → Result (Option Cut) TextFault
quoted line = closed Quoted 34 (take_while is_quoted_byte line) (drop (prefix_len is_quoted_byte line) line)

-- A keyword, starting after its opening parenthesis; it isn't empty.
abbrev pub keyword : List ℕ → Result (Option Cut) TextFault
keyword line = of_content (take_while is_word_byte line) (drop (prefix_len is_word_byte line) line) where
  of_content : List ℕ → List ℕ → Result (Option Cut) TextFault
  of_content [] rest = Err (open_fault rest)
  of_content (first ∷ content) rest = closed Keyword 41 (first ∷ content) rest

-- The word at the start of the line.
abbrev pub word : List ℕ → Cut
word line = (record { kind = Word; content = take_while is_word_byte line }, drop (prefix_len is_word_byte line) line)

-- The token at the start of the line, and the rest.
abbrev pub token_from : List ℕ → Result (Option Cut) TextFault
token_from [] = Ok None
token_from (byte ∷ rest) =
    if byte == 34 then quoted rest
    else if byte == 40 then keyword rest
    else if is_word_byte byte then Ok (Some (word (byte ∷ rest)))
    else Err (byte_fault byte)

-- The line without leading blanks.
abbrev pub behind_blanks : List ℕ → List ℕ
behind_blanks line = drop (prefix_len is_blank line) line

-- The next token of a line and the rest, or the fault of the first invalid byte.
unfoldable pub token_at : List ℕ → Result (Option Cut) TextFault
token_at line = token_from (behind_blanks line)

-- The line without trailing blanks.
abbrev pub before_blanks : List ℕ → List ℕ
before_blanks line = take (length line - suffix_len is_blank line) line

-- The line without leading and trailing blanks.
abbrev pub trimmed : List ℕ → List ℕ
trimmed line = before_blanks (behind_blanks line)

-- The tokens of a line of at most n bytes: each must be whole and allowed.
unfoldable pub all_tokens : (TokenText → Bool) → ℕ → List ℕ → Result (Unit {0}) TextFault
all_tokens allowed zero line = Ok tt
all_tokens allowed (suc n) line = elim (token_at line) [
  | Err fault ↦ Err fault
  | Ok None ↦ Ok tt
  | Ok (Some (token, rest)) ↦ if allowed token then all_tokens allowed n rest else Err Unsupported
]
