-- The division of a text into lines, and of a line into tokens.
use Rattle.std.specs.Prelude.{◌≡◌, ℕ, ◌+◌, ◌==◌, Bool, false, List, [], ◌∷◌, ◌++◌, length, map, IsTrue}
use Rattle.std.specs.List.{list_all}
use Rattle.list_terms.specs.Tokens.{TokenText, is_blank, token_text, trimmed}
use Rattle.list_terms.specs.TokenLaws.{ends_token, is_content}
use Rattle.list_terms.specs.Text.{is_tag}
use Rattle.list_terms.specs.Lines.{without_cr, without_mark}
use Rattle.list_terms.specs.WholeProject.{is_line_byte}

-- A line that consists of these tokens, separated by blanks or by nothing.
pub data CutsTo : List ℕ → List TokenText → Type 0 where
  OnlyBlanks : (blanks : List ℕ) → IsTrue (list_all is_blank blanks) → CutsTo blanks []
  NextToken : (blanks : List ℕ) (token : TokenText) (rest : List ℕ) (tokens : List TokenText)
      → IsTrue (list_all is_blank blanks) → IsTrue (is_content token.kind token.content)
      → IsTrue (ends_token token.kind rest) → CutsTo rest tokens
      → CutsTo (blanks ++ (token_text token ++ rest)) (token ∷ tokens)

-- A line of these tokens that doesn't begin with `<`.
pub record HasTokens (line : List ℕ) (tokens : List TokenText) : Type 0 where
  pub untagged : is_tag line ≡ false
  pub cut : CutsTo line tokens

-- A text that consists of these parts, each followed by LF. A nonempty last part may lack its LF.
pub data HasParts : List ℕ → List (List ℕ) → Type 0 where
  NoPart : HasParts [] []
  LastPart : (byte : ℕ) (part : List ℕ) → IsTrue (list_all is_line_byte (byte ∷ part))
      → HasParts (byte ∷ part) ((byte ∷ part) ∷ [])
  EndedPart : (part rest : List ℕ) {parts : List (List ℕ)}
      → IsTrue (list_all is_line_byte part) → HasParts rest parts → HasParts (part ++ (10 ∷ rest)) (part ∷ parts)

-- The lines of a text: without a byte order mark in front, and without one CR at the end of each.
pub record HasLines (text : List ℕ) (lines : List (List ℕ)) : Type 0 where
  pub parts : List (List ℕ)
  pub cut : HasParts (without_mark text) parts
  pub lines_are : lines ≡ map without_cr parts

-- A line and its number in the text.
pub record NumberedLine : Type 0 where
  pub number : ℕ
  pub text : List ℕ

-- The lines, numbered from `number`.
abbrev pub with_numbers : ℕ → List (List ℕ) → List NumberedLine
with_numbers number [] = []
with_numbers number (text ∷ lines) = record { number = number; text = text } ∷ with_numbers (number + 1) lines

-- The texts of numbered lines.
abbrev pub texts : List NumberedLine → List (List ℕ)
texts lines = map (λ line. line.text) lines

-- A line of blanks only.
abbrev pub is_empty : List ℕ → Bool
is_empty text = length (trimmed text) == 0
