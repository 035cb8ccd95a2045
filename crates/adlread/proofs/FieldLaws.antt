-- The tokens of a line spell its value: a line of any form is read as the value that its tokens spell, and as no
-- other.
use Rattle.std.proofs.Common.{◌≡◌, ℕ, zero, suc, ◌<◌, ◌≤◌, Bool, true, false, List, [], ◌∷◌, length, Option, None, Some, Result, Ok, Err, refl, ap, sym, ◌∙◌, arith}
use Rattle.std.specs.Prelude.{codes, is_some, not, ok_or}
use Rattle.std.specs.List.{list_all}
use Rattle.std.proofs.lemmas.Bool.{not-true}
use Rattle.std.proofs.lemmas.Slice.Eq.{bytes_eq-Decides}
use Rattle.facts.specs.Tests.{and_left, and_right, and_both}
use Rattle.sampletime.specs.TimeCode.{samples_of}
use Rattle.list_terms.specs.declared.TextFault.{TextFault}
use Rattle.list_terms.specs.declared.TextFault.TheVariants.{BadTime, BadUrl, SectionMismatch, Unsupported}
pub use Rattle.list_terms.specs.FormLaws.{always, ends, found, is_found, is_numbered, reads_all, reads_end, reads_may, reads_mapped, reads_numbered, refused, told_read, unless_read}
pub use Rattle.list_terms.specs.ReadingLaws.{IsNamed}
use Rattle.list_terms.specs.FormLaws.{IsMay, Nothing, Passed}
pub use Rattle.list_terms.specs.StepLaws.{IsChain, IsImage, chain, err_map_ok, if_ok, ok_map_ok, ok_or_some, ok_same, unless_ok}
pub use Rattle.list_terms.specs.EndLaws.{at_field, field_at}
use Rattle.list_terms.specs.Names.{place_of_url}
use Rattle.list_terms.specs.Tokens.{Cut, TokenText, all_tokens, token_at}
use Rattle.list_terms.specs.Fields.{end_line, is_keyword, is_missing, optional_time}
use Rattle.list_terms.specs.Forms.{Done, Field, Form, Identifier, May, MayTime, Number, Passes, Refused, Run, Then, Time, Unless, Url, Value, keyword, of_first, reads, reads_line, value_at, value_of}
use Rattle.list_terms.specs.Steps.{◌>>=◌}
use Rattle.list_terms.specs.Text.{is_tag, untagged}
use Rattle.adlread.specs.CutLines.{CutsTo, OnlyBlanks}
use Rattle.adlread.specs.LineGrammar.{Spell, SpellByFirst, SpellsByFirst, SpellsLine, Tells, TellsTime, named}
use Rattle.adlread.proofs.CutLaws.{cut_next, cut_none, first_cut, no_cut, rest_shorter}
use Rattle.list_terms.specs.NumberLaws.{channels_read, channels_told, number_read, number_told}
use Rattle.adlread.proofs.TokenRun.{all_tokens-step, all_tokens-refused, all_tokens-fault, all_tokens-none, no_bytes}

-- ---- the end of a line

pub all_cut :
    (allowed : TokenText → Bool) (n : ℕ) (line : List ℕ) (tokens : List TokenText) → length line ≤ n
    → CutsTo line tokens
    → list_all allowed tokens ≡ true → all_tokens allowed n line ≡ Ok tt
unfolding all_tokens
all_cut allowed zero line tokens short cut all = refl
all_cut allowed (suc n) line [] short cut all = all_tokens-none allowed (suc n) line (no_cut cut)
all_cut allowed (suc n) line (token ∷ tokens) short cut all =
    let c = first_cut cut in
    let others = all_cut allowed n c.rest tokens (let s = c.shorter in omega arith) c.cut
    (and_right (allowed token) (list_all allowed tokens) all) in
    all_tokens-step allowed n line c.rest token c.at (and_left (allowed token) (list_all allowed tokens) all) ∙ others

-- The rest of a line consists of allowed tokens.
pub record AreTokens (allowed : TokenText → Bool) (line : List ℕ) : Type 0 where
  pub tokens : List TokenText
  pub cut : CutsTo line tokens
  pub all : list_all allowed tokens ≡ true

pub all_tokens_are :
    (allowed : TokenText → Bool) (n : ℕ) (line : List ℕ) → length line ≤ n → all_tokens allowed n line ≡ Ok tt
    → AreTokens allowed line
unfolding all_tokens
all_tokens_are allowed zero line short e =
    rw (no_bytes line short) (record { tokens = []; cut = OnlyBlanks [] refl; all = refl })
all_tokens_are allowed (suc n) line short e =
    by_token (token_at line) refl (λ rest shorter e. all_tokens_are allowed n rest (omega arith) e) where
      by_token :
          (next : Result (Option Cut) TextFault) → token_at line ≡ next
          → ((rest : List ℕ) → length rest < length line → all_tokens allowed n rest ≡ Ok tt → AreTokens allowed rest)
          → AreTokens allowed line
      by_token (Err fault) t ih = absurd (let no = sym (all_tokens-fault allowed n line fault t) ∙ e in cc)
      by_token (Ok None) t ih = record { tokens = []; cut = cut_none line t; all = refl }
      by_token (Ok (Some (token, rest))) t ih = by_test (allowed token) refl where
        by_test : (passes : Bool) → allowed token ≡ passes → AreTokens allowed line
        by_test true a =
            let others = ih rest (rest_shorter line rest token t)
            (sym (all_tokens-step allowed n line rest token t a) ∙ e) in
            record {
              tokens = token ∷ others.tokens;
              cut = cut_next line rest token others.tokens t others.cut;
              all = and_both (allowed token) (list_all allowed others.tokens) a others.all;
            }
        by_test false a = absurd (let no = sym (all_tokens-refused allowed n line rest token t a) ∙ e in cc)

list_all-any : {X : Type 0} (xs : List X) → list_all (λ x. true) xs ≡ true
list_all-any [] = refl
list_all-any (x ∷ xs) = list_all-any xs

pub end_is : (line : List ℕ) → end_line line ≡ Ok tt → AreTokens (λ t. true) line
unfolding end_line
end_is line e = all_tokens_are (λ t. true) (length line) line (omega arith) e

pub is_end_of : (line : List ℕ) (tokens : List TokenText) → CutsTo line tokens → end_line line ≡ Ok tt
unfolding end_line
is_end_of line tokens cut = all_cut (λ t. true) (length line) line tokens (omega arith) cut (list_all-any tokens)

-- ---- one field

missing_is : (text : List ℕ) → is_missing text ≡ true → text ≡ codes "_"
missing_is text h = (bytes_eq-Decides text (codes "_")).0 h

time_read : (rate : ℕ) (text : List ℕ) (time : Option ℕ) → TellsTime rate text time → optional_time rate text ≡ Ok time
unfolding optional_time
time_read rate text None h = rw h refl
time_read rate text (Some time) h = by_test (is_missing text) refl where
  by_test : (missing : Bool) → is_missing text ≡ missing → optional_time rate text ≡ Ok (Some time)
  by_test true m =
      let none : ◌≡◌ {A = Option (ℕ × List ℕ)} None (Some (time, h.0)) = rw (missing_is text m) at h.1 in absurd (cc)
  by_test false m = rw (m, h.1) refl

time_told : (rate : ℕ) (text : List ℕ) (time : Option ℕ) → optional_time rate text ≡ Ok time → TellsTime rate text time
unfolding optional_time
time_told rate text time e = by_test (is_missing text) refl where
  by_test : (missing : Bool) → is_missing text ≡ missing → TellsTime rate text time
  by_test true m = let same : None ≡ time = cc in rw (← same) m
  by_test false m =
      let c = chain (ok_or (samples_of rate text) BadTime) _ time (rw m at e) in
      let same : Some c.value.0 ≡ time = cc in
      rw (← same) (c.value.1, ok_or_some (samples_of rate text) BadTime c.value c.is)

pub told : (f : Field) (token : TokenText) (x : Value f) → value_of f token ≡ Ok x → Tells f token x
told (Passes test fault) token x e = (if_ok (test token) tt fault x e).0
told Number token x e = number_told 32767 x token.content (omega arith) (ok_or_some _ _ x e)
told Run token x e = channels_told token.content x (ok_or_some _ _ x e)
told (Time rate) token x e = ok_or_some (samples_of rate token.content) BadTime x e
told (MayTime rate) token x e = time_told rate token.content x e
told Url token x e =
    let passed = if_ok (is_some (place_of_url token.content)) token.content BadUrl x e in
    (passed.1, rw (← passed.1) passed.0)
told Identifier token x e = ok_same _ _ e

pub read : (f : Field) (token : TokenText) (x : Value f) → Tells f token x → value_of f token ≡ Ok x
read (Passes test fault) token x h = rw h refl
read Number token x h = rw (number_read 32767 x token.content (omega arith) h) refl
read Run token x h = rw (channels_read token.content x h) refl
read (Time rate) token x h = rw h refl
read (MayTime rate) token x h = time_read rate token.content x h
read Url token x h = rw (h.0, h.1) refl
read Identifier token x h = ap Ok h

-- ---- any form

-- The rest of a line consists of tokens that spell `x`.
pub record IsSaid {A : Type 0} (form : Form A) (line : List ℕ) (x : A) : Type 0 where
  pub tokens : List TokenText
  pub cut : CutsTo line tokens
  pub says : Spell form tokens x

pub said : {A : Type 0} (form : Form A) (line : List ℕ) (x : A) → reads form line ≡ Ok x → IsSaid form line x
unfolding reads
said (Done test y) line x e =
    let c = chain (all_tokens test (length line) line) _ x e in
    let t = all_tokens_are test (length line) line (omega arith) c.is in
    record { tokens = t.tokens; cut = t.cut; says = (t.all, ok_same _ _ c.others) }
said (Then field more) line x e =
    let c = chain (value_at field line) _ x e in
    let f = found field line c.value c.is in
    let o = said (more c.value.0) c.value.1 x c.others in
    record {
      tokens = f.token ∷ o.tokens;
      cut = cut_next line c.value.1 f.token o.tokens f.at o.cut;
      says = (c.value.0, (told field f.token c.value.0 f.is, o.says));
    }
said (Unless wrong fault more) line x e =
    let passed = unless_ok wrong fault (reads more line) x e in
    let o = said more line x passed.1 in
    record { tokens = o.tokens; cut = o.cut; says = (ap not passed.0, o.says) }
said (May test fault y) line x e = by_may (reads_may test fault y x line e) where
  by_may : IsMay test line × (y ≡ x) → IsSaid (May test fault y) line x
  by_may (Nothing at, same) = record { tokens = []; cut = cut_none line at; says = (refl, same) }
  by_may (Passed token rest at passes ends, same) =
      let t = end_is rest ends in
      record { tokens = token ∷ t.tokens; cut = cut_next line rest token t.tokens at t.cut; says = (passes, same) }
said (Refused fault) line x e = absurd (cc)

pub says :
    {A : Type 0} (form : Form A) (line : List ℕ) (tokens : List TokenText) (x : A) → CutsTo line tokens
    → Spell form tokens x → reads form line ≡ Ok x
unfolding reads
says (Done test y) line tokens x cut h =
    rw (all_cut test (length line) line tokens (omega arith) cut h.0) (ap Ok h.1)
says (Then field more) line [] x cut h = absurd h
says (Then field more) line (token ∷ tokens) x cut h =
    let f = first_cut cut in
    rw (is_found field line f.rest token h.0 f.at (read field token h.0 h.1.0))
    (says (more h.0) f.rest tokens x f.cut h.1.1)
says (Unless wrong fault more) line tokens x cut h = rw (not-true wrong h.0) (says more line tokens x cut h.1)
says (May test fault y) line [] x cut h = rw (no_cut cut) (ap Ok h.1)
says (May test fault y) line (token ∷ tokens) x cut h =
    let f = first_cut cut in rw (f.at, h.0, is_end_of f.rest tokens f.cut) (ap Ok h.1)
says (Refused fault) line tokens x cut h = absurd h

-- ---- a line after its keyword

module _ {A : Type 0} (name : List ℕ) (form : Form A) (text : List ℕ) (x : A) where
  pub is_named : SpellsLine (named name form) text x → IsNamed name form text x
  unfolding reads
  is_named h =
      let c = chain (value_at (keyword name) text) _ x (says (named name form) text h.tokens x h.cut.cut h.says) in
      let f = found (keyword name) text c.value c.is in
      record {
        keyword = f.token;
        rest = c.value.1;
        at = f.at;
        is = (if_ok (is_keyword name f.token) tt Unsupported c.value.0 f.is).0;
        says = c.others;
      }

  pub spells_named : is_tag text ≡ false → IsNamed name form text x → SpellsLine (named name form) text x
  unfolding reads
  spells_named untagged h =
      let first = is_found (keyword name) text h.rest h.keyword tt h.at (rw h.is refl) in
      let e : reads (named name form) text ≡ Ok x = rw first h.says in
      let s = said (named name form) text x e in
      record { tokens = s.tokens; cut = record { untagged = untagged; cut = s.cut }; says = s.says }

-- ---- a line whose first token selects its form

module _ {A : Type 0} (blank : A) (form : TokenText → Form A) (text : List ℕ) (x : A) where
  first_said :
      is_tag text ≡ false → (next : Result (Option Cut) TextFault) → token_at text ≡ next
      → (next >>= (λ c. of_first blank form c)) ≡ Ok x → SpellsByFirst blank form text x
  first_said untagged (Err fault) at e = absurd (cc)
  first_said untagged (Ok None) at e =
      record { tokens = []; cut = record { untagged = untagged; cut = cut_none text at }; says = ok_same _ _ e }
  first_said untagged (Ok (Some (token, rest))) at e =
      let s = said (form token) rest x e in
      record {
        tokens = token ∷ s.tokens;
        cut = record { untagged = untagged; cut = cut_next text rest token s.tokens at s.cut };
        says = s.says;
      }

  pub spelled_by_first : untagged text (reads_line blank form text) ≡ Ok x → SpellsByFirst blank form text x
  unfolding reads_line
  spelled_by_first e =
      let passed = unless_ok (is_tag text) SectionMismatch (reads_line blank form text) x e in
      first_said passed.0 (token_at text) refl passed.1

  first_read :
      (tokens : List TokenText) → CutsTo text tokens → SpellByFirst blank form tokens x
      → reads_line blank form text ≡ Ok x
  unfolding reads_line
  first_read [] cut h = rw (no_cut cut) (ap Ok h)
  first_read (token ∷ tokens) cut h =
      let f = first_cut cut in rw f.at (says (form token) f.rest tokens x f.cut h)

  pub read_by_first : SpellsByFirst blank form text x → untagged text (reads_line blank form text) ≡ Ok x
  read_by_first h = rw h.cut.untagged (first_read h.tokens h.cut.cut h.says)
