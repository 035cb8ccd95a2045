-- Forms of lines: the order of fields, and the value that they yield together.
use Rattle.std.specs.Prelude.{ℕ, Bool, true, List, length, Option, None, Some, Result, Ok, Err, if◌then◌else◌, is_some, ok_or}
use Rattle.sampletime.specs.TimeCode.{samples_of}
use Rattle.sound_terms.specs.declared.Channels.{Channels}
use Rattle.list_terms.specs.declared.TextFault.{TextFault}
use Rattle.list_terms.specs.declared.TextFault.TheVariants.{BadChannels, BadNumber, BadTime, BadUrl, Unsupported}
use Rattle.list_terms.specs.Names.{place_of_url}
use Rattle.list_terms.specs.Steps.{◌>>=◌}
use Rattle.list_terms.specs.Tokens.{Cut, TokenText, all_tokens, token_at, token_text}
use Rattle.list_terms.specs.Fields.{channels_of, end_line, field, is_keyword, number_up_to, optional_time}

-- A kind of field: a token that passes a test (or else this fault), a number, channels, a time at a frame rate, a
-- time or `_`, the URL of a file, or an identifier, which is kept verbatim.
pub data Field : Type 0 where
  Passes : (TokenText → Bool) → TextFault → Field
  Number : Field
  Run : Field
  Time : ℕ → Field
  MayTime : ℕ → Field
  Url : Field
  Identifier : Field

-- The type of a field's value.
abbrev pub Value : Field → Type 0
Value (Passes test fault) = Unit {0}
Value Number = ℕ
Value Run = Channels
Value (Time rate) = ℕ × List ℕ
Value (MayTime rate) = Option ℕ
Value Url = List ℕ
Value Identifier = List ℕ

-- The value of a token as a field, or its fault.
abbrev pub value_of : (field : Field) → TokenText → Result (Value field) TextFault
value_of (Passes test fault) token = if test token then Ok tt else Err fault
value_of Number token = ok_or (number_up_to 32767 token.content) BadNumber
value_of Run token = ok_or (channels_of token.content) BadChannels
value_of (Time rate) token = ok_or (samples_of rate token.content) BadTime
value_of (MayTime rate) token = optional_time rate token.content
value_of Url token = if is_some (place_of_url token.content) then Ok token.content else Err BadUrl
value_of Identifier token = Ok (token_text token)

-- The form of a line that yields a value of type A.
-- - `Done`: the remaining tokens pass a test.
-- - `Then`: a field, and a form that may depend on its value.
-- - `Unless`: a fault that depends on several fields must not occur.
-- - `May`: one optional token that passes a test (or else this fault), and then any tokens.
-- - `Refused`: no line has this form.
pub data Form (A : Type 0) : Type 0 where
  Done : (TokenText → Bool) → A → Form A
  Then : (field : Field) → (Value field → Form A) → Form A
  Unless : Bool → TextFault → Form A → Form A
  May : (TokenText → Bool) → TextFault → A → Form A
  Refused : TextFault → Form A

-- The value of the next token as a field, and the rest of the line.
unfoldable pub value_at : (f : Field) → List ℕ → Result (Value f × List ℕ) TextFault
value_at f line = do
  (token, rest) ← field line
  value ← value_of f token
  Ok (value, rest)

-- The value of a line whose next token is optional but must pass a test.
abbrev pub may_end : {A : Type 0} → (TokenText → Bool) → TextFault → A → Option Cut → Result A TextFault
may_end test fault x None = Ok x
may_end test fault x (Some (token, rest)) = if test token then end_line rest >>= (λ _. Ok x) else Err fault

-- The value of a line in this form, or its leftmost fault.
unfoldable pub reads : {A : Type 0} → Form A → List ℕ → Result A TextFault
reads (Done test x) line = all_tokens test (length line) line >>= (λ _. Ok x)
reads (Then field more) line = value_at field line >>= (λ next. reads (more next.0) next.1)
reads (Unless wrong fault more) line = if wrong then Err fault else reads more line
reads (May test fault x) line = token_at line >>= (λ next. may_end test fault x next)
reads (Refused fault) line = Err fault

-- The value of a line whose first token selects its form. A blank line yields `blank`.
abbrev pub of_first : {A : Type 0} → A → (TokenText → Form A) → Option Cut → Result A TextFault
of_first blank form None = Ok blank
of_first blank form (Some (token, rest)) = reads (form token) rest

-- The value of a line whose first token selects its form, or its leftmost fault.
unfoldable pub reads_line : {A : Type 0} → A → (TokenText → Form A) → List ℕ → Result A TextFault
reads_line blank form line = token_at line >>= (λ next. of_first blank form next)

-- The form whose value is mapped by `f`.
unfoldable pub mapped : {A B : Type 0} → (A → B) → Form A → Form B
mapped f (Done test x) = Done test (f x)
mapped f (Then field more) = Then field (λ value. mapped f (more value))
mapped f (Unless wrong fault more) = Unless wrong fault (mapped f more)
mapped f (May test fault x) = May test fault (f x)
mapped f (Refused fault) = Refused fault

-- Any token.
abbrev pub any : TokenText → Bool
any token = true

-- The keyword with this name, as a field.
abbrev pub keyword : List ℕ → Field
keyword name = Passes (is_keyword name) Unsupported
