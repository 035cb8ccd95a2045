-- Byte ranges of tokens in their line.
use Rattle.std.specs.Prelude.{ℕ, ◌+◌, ◌-◌, List, length, Option, None, Some, Result, Ok, Err}
use Rattle.list_terms.specs.declared.TextFault.{TextFault}
use Rattle.list_terms.specs.Tokens.{TokenText, behind_blanks, token_at, token_text}
use Rattle.adltoken.specs.declared.tokens.Span.{Span}

-- The `long` bytes after leading blanks, in a line's rest that starts at offset `before`.
abbrev pub span_of : (before long : ℕ) → List ℕ → Span
span_of before long line = record { at = before + (length line - length (behind_blanks line)); length = long }

-- The range of the first token in a line's rest; without a token, all of the rest after leading blanks.
abbrev pub first_span : (before : ℕ) → List ℕ → Span
first_span before line = of_token (token_at line) where
  of_token : Result (Option (TokenText × List ℕ)) TextFault → Span
  of_token (Ok (Some (token, rest))) = span_of before (length (token_text token)) line
  of_token (Ok None) = span_of before (length (behind_blanks line)) line
  of_token (Err fault) = span_of before (length (behind_blanks line)) line
