-- The values of fields, each read from the content of its token.
use Rattle.std.specs.Prelude.{ℕ, ◌+◌, ◌-◌, ◌*◌, ◌==◌, ◌&&◌, ◌||◌, nat_le, Bool, true, false, List, [], ◌∷◌, length, Option, None, Some, Result, Ok, if◌then◌else◌, bytes_eq, codes, ok_or, unwrap_or}
use Rattle.std.specs.Str.{str_to_ascii_lowercase}
use Rattle.std.specs.List.{before_first, fold, list_all}
use Rattle.sampletime.specs.TimeCode.{is_digit, samples_of}
use Rattle.sound_terms.specs.declared.Channels.{Channels}
use Rattle.list_terms.specs.declared.TokenKind.{TokenKind}
use Rattle.list_terms.specs.declared.TokenKind.TheVariants.{Quoted, Keyword, Word}
use Rattle.list_terms.specs.declared.TextFault.{TextFault}
use Rattle.list_terms.specs.declared.TextFault.TheVariants.{BadTime, MissingField}
use Rattle.list_terms.specs.Names.{behind_byte}
use Rattle.list_terms.specs.Steps.{◌>>=◌}
use Rattle.list_terms.specs.Tokens.{TokenText, token_at, all_tokens}

-- Equality of texts up to the case of ASCII letters.
abbrev pub is_same_name : List ℕ → List ℕ → Bool
is_same_name name other = bytes_eq (str_to_ascii_lowercase name) (str_to_ascii_lowercase other)

-- The keyword with this name, in any case.
abbrev pub is_keyword : List ℕ → TokenText → Bool
is_keyword name token = is_kind token.kind && is_same_name token.content name where
  is_kind : TokenKind → Bool
  is_kind Quoted = false
  is_kind Keyword = true
  is_kind Word = false

-- The number that decimal digits spell.
abbrev pub spelled : List ℕ → ℕ
spelled digits = fold (λ n digit. n * 10 + (digit - 48)) 0 digits

-- One to six digits.
abbrev pub are_digits : List ℕ → Bool
are_digits text = nat_le 1 (length text) && nat_le (length text) 6 && list_all is_digit text

-- The number from 1 to `limit` that one to six digits spell.
unfoldable pub number_up_to : ℕ → List ℕ → Option ℕ
number_up_to limit text =
    if are_digits text && nat_le 1 (spelled text) && nat_le (spelled text) limit then Some (spelled text) else None

-- The channels from the first to the last, if these are in order.
abbrev pub channel_range : Option ℕ → Option ℕ → Option Channels
channel_range None last = None
channel_range (Some first) None = None
channel_range (Some first) (Some last) =
    if nat_le first last then Some (record { first = first; last = last }) else None

-- The byte `~`.
abbrev pub is_tilde : ℕ → Bool
is_tilde byte = byte == 126

-- A channel run: `n` for one channel, `a~b` for channels a to b.
unfoldable pub channels_of : List ℕ → Option Channels
channels_of text =
    channel_range (number_up_to 64 (before_first is_tilde text))
    (number_up_to 64 (unwrap_or (behind_byte 126 text) text))

-- `_`, the mark of a missing value.
abbrev pub is_missing : List ℕ → Bool
is_missing text = bytes_eq text (codes "_")

-- The digit `0`.
abbrev pub is_zero_digit : ℕ → Bool
is_zero_digit byte = byte == 48

-- The full stop.
abbrev pub is_stop : ℕ → Bool
is_stop byte = byte == 46

-- Zeros, at least one, then perhaps a full stop and more zeros.
abbrev pub is_plain_zero : List ℕ → Bool
is_plain_zero text =
    nat_le 1 (length (before_first is_stop text)) && list_all is_zero_digit (before_first is_stop text)
    && list_all is_zero_digit (unwrap_or (behind_byte 46 text) [])

-- The text without a leading `+` or `-`.
abbrev pub without_sign : List ℕ → List ℕ
without_sign [] = []
without_sign (byte ∷ rest) = if byte == 43 || byte == 45 then rest else byte ∷ rest

-- `_`, or a zero with or without a sign.
unfoldable pub is_zero : List ℕ → Bool
is_zero text = is_missing text || is_plain_zero (without_sign text)

-- The given number, perhaps with a full stop and zeros after it.
unfoldable pub is_whole_number : List ℕ → List ℕ → Bool
is_whole_number number text =
    bytes_eq (before_first is_stop text) number && list_all is_zero_digit (unwrap_or (behind_byte 46 text) [])

-- The frame rate that a text spells: 24, 25 or 30.
unfoldable pub told_rate : List ℕ → Option ℕ
told_rate text =
    if is_whole_number (codes "24") text then Some 24
    else if is_whole_number (codes "25") text then Some 25
    else if is_whole_number (codes "30") text then Some 30
    else None

-- The next token, which is required.
unfoldable pub field : List ℕ → Result (TokenText × List ℕ) TextFault
field line = token_at line >>= (λ next. ok_or next MissingField)

-- A time, or `_` for none.
unfoldable pub optional_time : ℕ → List ℕ → Result (Option ℕ) TextFault
optional_time rate text = if is_missing text then Ok None else do
  time ← ok_or (samples_of rate text) BadTime
  Ok (Some time.0)

-- The rest of the line consists of whole tokens.
unfoldable pub end_line : List ℕ → Result (Unit {0}) TextFault
end_line line = all_tokens (λ token. true) (length line) line
