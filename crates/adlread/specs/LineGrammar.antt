-- The grammar of lines: the values that their tokens spell.
use Rattle.std.specs.Prelude.{◌≡◌, ℕ, ◌&&◌, not, Bool, true, false, List, [], ◌∷◌, Option, None, Some, IsTrue, codes, is_some}
use Rattle.std.specs.List.{list_all}
use Rattle.sampletime.specs.TimeCode.{samples_of}
use Rattle.sound_terms.specs.declared.Event.{Event}
use Rattle.list_terms.specs.declared.Rates.{Rates}
use Rattle.list_terms.specs.Names.{place_of_url}
use Rattle.list_terms.specs.Project.{Source}
pub use Rattle.list_terms.specs.Spelling.{ChannelRun, IsNumber, OneChannel, SpellsChannels}
use Rattle.list_terms.specs.Tokens.{TokenText, token_text}
use Rattle.list_terms.specs.Fields.{is_keyword, is_missing, is_zero}
use Rattle.list_terms.specs.Forms.{Done, Field, Form, Identifier, May, MayTime, Number, Passes, Refused, Run, Then, Time, Unless, Url, Value, keyword}
use Rattle.list_terms.specs.EntryLines.{event_fields, fade_fields, sequence_fields, source_fields, system_fields}
use Rattle.adlread.specs.CutLines.{HasTokens}

-- The first token, if any, passes the test.
abbrev pub may_have_first : (TokenText → Bool) → List TokenText → Bool
may_have_first test [] = true
may_have_first test (token ∷ tokens) = test token

-- A line whose tokens pass a test.
pub record IsLineOf (test : List TokenText → Bool) (text : List ℕ) : Type 0 where
  pub tokens : List TokenText
  pub cut : HasTokens text tokens
  pub passes : IsTrue (test tokens)

-- The text of a time, with any separators, or `_` for none.
abbrev pub TellsTime : ℕ → List ℕ → Option ℕ → Type 0
TellsTime rate text None = IsTrue (is_missing text)
TellsTime rate text (Some time) = (separators : List ℕ) × (samples_of rate text ≡ Some (time, separators))

-- ---- any form of lines

-- The token spells this value of the field.
abbrev pub Tells : (field : Field) → TokenText → Value field → Type 0
Tells (Passes test fault) token value = IsTrue (test token)
Tells Number token number = IsNumber 32767 token.content number
Tells Run token channels = SpellsChannels token.content channels
Tells (Time rate) token time = samples_of rate token.content ≡ Some time
Tells (MayTime rate) token time = TellsTime rate token.content time
Tells Url token url = (token.content ≡ url) × IsTrue (is_some (place_of_url url))
Tells Identifier token text = token_text token ≡ text

-- The tokens spell `x` in this form: one token for each field, and any further ones that the form allows. No guard
-- of the form applies.
abbrev pub Spell : {A : Type 0} → Form A → List TokenText → A → Type 0
Spell (Done test y) tokens x = IsTrue (list_all test tokens) × (y ≡ x)
Spell (Then field more) [] x = ⊥
Spell (Then field more) (token ∷ tokens) x =
    (value : Value field) × (Tells field token value × Spell (more value) tokens x)
Spell (Unless wrong fault more) tokens x = IsTrue (not wrong) × Spell more tokens x
Spell (May test fault y) tokens x = IsTrue (may_have_first test tokens) × (y ≡ x)
Spell (Refused fault) tokens x = ⊥

-- The form of a line that starts with this keyword.
abbrev pub named : {A : Type 0} → List ℕ → Form A → Form A
named name form = Then (keyword name) (λ _. form)

-- A line whose tokens spell `x` in this form.
pub record SpellsLine {A : Type 0} (form : Form A) (text : List ℕ) (x : A) : Type 0 where
  pub tokens : List TokenText
  pub cut : HasTokens text tokens
  pub says : Spell form tokens x

-- The tokens spell `x`: either there are none and `x` is `blank`, or the first one selects the form of the others.
abbrev pub SpellByFirst : {A : Type 0} → A → (TokenText → Form A) → List TokenText → A → Type 0
SpellByFirst blank form [] x = blank ≡ x
SpellByFirst blank form (token ∷ tokens) x = Spell (form token) tokens x

-- A line whose tokens spell `x`, in the form that the first one selects.
pub record SpellsByFirst {A : Type 0} (blank : A) (form : TokenText → Form A) (text : List ℕ) (x : A) : Type 0 where
  pub tokens : List TokenText
  pub cut : HasTokens text tokens
  pub says : SpellByFirst blank form tokens x

-- ---- the source index

-- The form of an `(Index)` line.
abbrev pub source_line : ℕ → Form Source
source_line rate = named (codes "Index") (Then Number (source_fields rate))

-- A line whose first token isn't `(Index)`.
abbrev pub is_no_source : List TokenText → Bool
is_no_source [] = false
is_no_source (token ∷ tokens) = not (is_keyword (codes "Index") token)

-- ---- the event list

-- The form of an `(Entry)` line: the event before its fades, and the separators of the destination in.
abbrev pub entry_line : ℕ → Form (Event × List ℕ)
entry_line rate = named (codes "Entry") (Then Number (event_fields rate))

-- The form of a fade line with this keyword.
abbrev pub fade_line : ℕ → List ℕ → Form ℕ
fade_line rate name = named name (fade_fields rate)

-- A blank line, or a remark.
abbrev pub is_remark : List TokenText → Bool
is_remark [] = true
is_remark (token ∷ tokens) = is_keyword (codes "Rem") token

-- A gain of zero.
abbrev pub is_zero_gain : List TokenText → Bool
is_zero_gain [] = false
is_zero_gain (token ∷ tokens) = is_keyword (codes "Gain") token && list_all (λ t. is_zero t.content) tokens

-- ---- settings

module _ (rate : ℕ) where
  -- Lines of SYSTEM, without a source offset or a gain.
  pub data AreSettings : List (List ℕ) → Type 0 where
    NoSetting : AreSettings []
    Setting : {text : List ℕ} {lines : List (List ℕ)} → SpellsByFirst tt (system_fields rate) text tt
        → AreSettings lines → AreSettings (text ∷ lines)

  -- Lines of SEQUENCE, with the rates given before and after them.
  pub data TellRates : Rates → List (List ℕ) → Rates → Type 0 where
    NoRate : {rates : Rates} → TellRates rates [] rates
    RateLine : {rates next told : Rates} {text : List ℕ} {lines : List (List ℕ)}
        → SpellsByFirst rates (sequence_fields rate rates) text next → TellRates next lines told
        → TellRates rates (text ∷ lines) told
