-- The fields of a line, each after a space, are read as written.
use Rattle.std.proofs.Common.{◌≡◌, ℕ, ◌≤◌, true, false, List, [], ◌∷◌, ◌++◌, Option, None, Some, Result, Ok, Err, IsTrue, refl, arith}
use Rattle.std.specs.Prelude.{bytes_eq, codes, is_some}
use Rattle.std.specs.List.{list_all}
use Rattle.std.proofs.lemmas.Bool.Decides.{nat_tests}
use Rattle.std.proofs.lemmas.Slice.Eq.{bytes_eq-Decides}
use Rattle.sampletime.specs.FrameRate.{is_rate}
use Rattle.sampletime.specs.TimeCode.{are_separators, day, samples_of, text_of}
use Rattle.sampletime.specs.TimeLaws.{samples_of-text_of}
use Rattle.sound_terms.specs.declared.Channels.{Channels}
use Rattle.list_terms.specs.declared.TokenKind.TheVariants.{Word}
use Rattle.list_terms.specs.declared.TextFault.{TextFault}
use Rattle.list_terms.specs.Fields.{field, optional_time}
use Rattle.list_terms.specs.Forms.{Identifier, MayTime, Number, Run, Time, Url, value_at}
use Rattle.list_terms.specs.Names.{place_of_url}
use Rattle.list_terms.specs.Project.{ListProject}
use Rattle.list_terms.specs.Tokens.{TokenText, Cut, is_quoted_byte, is_word_byte, token_at, token_text}
use Rattle.list_terms.specs.TokenLaws.{is_content, is_word, stops, token_at-cut, token_at-quoted, token_at-space, token_at-token_text}
use Rattle.list_terms.specs.WholeProject.{are_channels, is_number, is_one_token, is_time_of_day}
use Rattle.list_terms.specs.WrittenText.{channels_text, number_text, time_text}
use Rattle.adlwrite.proofs.Words.{channels_are_read, number_is_a_word, number_is_read, time_is_a_word}

field-word :
    (text rest : List ℕ) → is_word text ≡ true → stops is_word_byte rest ≡ true
    → field (32 ∷ (text ++ rest)) ≡ Ok (record { kind = Word; content = text }, rest)
unfolding field
field-word text rest h s = rw (token_at-space (text ++ rest), token_at-token_text Word text rest h s)

pub number_field-written :
    (n : ℕ) (rest : List ℕ) → IsTrue (is_number n) → stops is_word_byte rest ≡ true
    → value_at Number (32 ∷ (number_text n ++ rest)) ≡ Ok (n, rest)
unfolding value_at
number_field-written n rest h s =
    rw (field-word (number_text n) rest (number_is_a_word n h) s, number_is_read n h)

pub channels_field-written :
    (channels : Channels) (rest : List ℕ) → IsTrue (are_channels channels) → stops is_word_byte rest ≡ true
    → value_at Run (32 ∷ (channels_text channels ++ rest)) ≡ Ok (channels, rest)
unfolding value_at
channels_field-written channels rest h s =
    let read = channels_are_read channels h in
    rw (field-word (channels_text channels) rest read.word s, read.value)

pub time_field-written :
    (rate t : ℕ) (separators rest : List ℕ) → IsTrue (is_rate rate) → t ≤ day → IsTrue (are_separators separators)
    → stops is_word_byte rest ≡ true
    → value_at (Time rate) (32 ∷ (text_of rate t separators ++ rest)) ≡ Ok ((t, separators), rest)
unfolding value_at
time_field-written rate t separators rest known h i s =
    rw (
      field-word (text_of rate t separators) rest (time_is_a_word rate t separators known h i) s,
      samples_of-text_of rate t separators known h i,
    )

-- The text of a time isn't `_`.
not_missing : (rate : ℕ) (text : List ℕ) (time : ℕ × List ℕ) → samples_of rate text ≡ Some time → bytes_eq text (codes "_") ≡ false
not_missing rate [] time e = refl
not_missing rate (a ∷ []) time e = absurd (cc)
not_missing rate (a ∷ b ∷ text) time e = grind (arith, nat_tests)

optional_time-written :
    (time : Option ℕ) (project : ListProject) → IsTrue (is_rate project.rate) → IsTrue (are_separators project.separators)
    → IsTrue (is_time_of_day time) → optional_time project.rate (time_text project time) ≡ Ok time
unfolding optional_time
optional_time-written None project r i h = refl
optional_time-written (Some t) project r i h =
    let read = samples_of-text_of project.rate t project.separators r (grind (arith, nat_tests)) i in
    let there = not_missing project.rate (text_of project.rate t project.separators) (t, project.separators) read in
    rw (there, read)

optional_time_is_a_word :
    (time : Option ℕ) (project : ListProject) → IsTrue (is_rate project.rate) → IsTrue (are_separators project.separators)
    → IsTrue (is_time_of_day time) → is_word (time_text project time) ≡ true
optional_time_is_a_word None project r i h = refl
optional_time_is_a_word (Some t) project r i h = time_is_a_word project.rate t project.separators r (grind (arith, nat_tests)) i

pub optional_time_field-written :
    (time : Option ℕ) (project : ListProject) (rest : List ℕ) → IsTrue (is_rate project.rate)
    → IsTrue (are_separators project.separators)
    → IsTrue (is_time_of_day time) → stops is_word_byte rest ≡ true
    → value_at (MayTime project.rate) (32 ∷ (time_text project time ++ rest)) ≡ Ok (time, rest)
unfolding value_at
optional_time_field-written time project rest r i h s =
    rw (
      field-word (time_text project time) rest (optional_time_is_a_word time project r i h) s,
      optional_time-written time project r i h,
    )

pub url_field-written :
    (url rest : List ℕ) → list_all is_quoted_byte url ≡ true → IsTrue (is_some (place_of_url url))
    → value_at Url (32 ∷ 34 ∷ (url ++ (34 ∷ rest))) ≡ Ok (url, rest)
unfolding value_at field
url_field-written url rest h place =
    rw (token_at-space (34 ∷ (url ++ (34 ∷ rest))), token_at-quoted url rest h, place)

all_pass : (text : List ℕ) → list_all (λ b. true) text ≡ true
all_pass [] = refl
all_pass (b ∷ text) = all_pass text

cut_again :
    (token : TokenText) (rest : List ℕ) → is_content token.kind token.content ≡ true → stops is_word_byte rest ≡ true
    → value_at Identifier (32 ∷ (token_text token ++ rest)) ≡ Ok (token_text token, rest)
unfolding value_at field
cut_again token rest h s =
    rw (token_at-space (token_text token ++ rest), token_at-token_text token.kind token.content rest h s)

uid_is_cut :
    (uid rest : List ℕ) (cut : Result (Option Cut) TextFault) → token_at uid ≡ cut → is_one_token uid ≡ true
    → stops is_word_byte rest ≡ true → value_at Identifier (32 ∷ (uid ++ rest)) ≡ Ok (uid, rest)
uid_is_cut uid rest (Err fault) e h s = absurd (let no : false ≡ true = rw e at h in cc)
uid_is_cut uid rest (Ok None) e h s = absurd (let no : false ≡ true = rw e at h in cc)
uid_is_cut uid rest (Ok (Some (token, behind))) e h s =
    let same : token_text token ≡ uid = (bytes_eq-Decides (token_text token) uid).0 (rw e at h) in
    let content = (token_at-cut (λ b. true) uid behind token (all_pass uid) e).content in
    rw (← same) (cut_again token rest content s)

pub uid_field-written :
    (uid rest : List ℕ) → is_one_token uid ≡ true → stops is_word_byte rest ≡ true
    → value_at Identifier (32 ∷ (uid ++ rest)) ≡ Ok (uid, rest)
uid_field-written uid rest h s = uid_is_cut uid rest (token_at uid) refl h s
