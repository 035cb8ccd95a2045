-- The lines of a source, an entry and a fade are read as written.
use Rattle.std.proofs.Common.{◌≡◌, ℕ, ◌≤◌, Bool, true, false, List, [], ◌∷◌, ◌++◌, length, Option, Some, Ok, IsTrue, refl, ap, sym, ◌∙◌, arith}
use Rattle.std.specs.Prelude.{codes, ◌==◌}
use Rattle.std.proofs.lemmas.Bool.Decides.{nat_tests}
use Rattle.std.proofs.lemmas.List.{append-nil}
use Rattle.sampletime.specs.FrameRate.{is_rate}
use Rattle.sampletime.specs.TimeCode.{are_separators, day}
use Rattle.sound_terms.specs.declared.Event.{Event}
use Rattle.list_terms.specs.declared.OpenEntry.{OpenEntry}
use Rattle.list_terms.specs.declared.TokenKind.TheVariants.{Keyword}
use Rattle.list_terms.specs.declared.TextFault.TheVariants.{RepeatedFade, Unsupported}
use Rattle.list_terms.specs.EntryLines.{curve_field, entry_keyword, entry_with, event_fields, fade_fields, is_cut, is_linear, source_fields, with_fall, with_rise}
use Rattle.list_terms.specs.Fields.{field}
use Rattle.list_terms.specs.FormLaws.{told_read}
use Rattle.list_terms.specs.Forms.{Done, MayTime, Passes, Then, Time, any, keyword, reads, value_at}
use Rattle.list_terms.specs.Project.{ListProject, Source}
use Rattle.list_terms.specs.Tokens.{all_tokens, token_at}
use Rattle.list_terms.specs.WholeProject.{has_whole_texts, is_source, is_time_of_day}
use Rattle.list_terms.specs.WrittenText.{channels_text, number_text, time_text}
use Rattle.adlwrite.proofs.Facts.{EventFacts, source_facts}
use Rattle.adlwrite.proofs.Fields.{channels_field-written, number_field-written, optional_time_field-written, time_field-written, uid_field-written, url_field-written}

-- ---- constant fields

file_is_read :
    (rest : List ℕ) → value_at (keyword (codes "F")) (codes " (F) \"" ++ rest) ≡ Ok (tt, codes " \"" ++ rest)
unfolding value_at field token_at
file_is_read rest = refl

cut_keyword_is_read :
    (rest : List ℕ) → value_at (keyword (codes "Cut")) (codes " (Cut) I " ++ rest) ≡ Ok (tt, codes " I " ++ rest)
unfolding value_at field token_at
cut_keyword_is_read rest = refl

cut_is_read : (rest : List ℕ) → value_at (Passes is_cut Unsupported) (codes " I " ++ rest) ≡ Ok (tt, codes " " ++ rest)
unfolding value_at field token_at
cut_is_read rest = refl

linear_is_read : value_at (Passes is_linear Unsupported) (codes " LIN _ _ _") ≡ Ok (tt, codes " _ _ _")
unfolding value_at field token_at
linear_is_read = refl

curve_ends : all_tokens any (length (codes " _ _ _")) (codes " _ _ _") ≡ Ok tt
unfolding all_tokens token_at
curve_ends = refl

-- The curve of a fade longer than zero.
long_curve :
    (length : ℕ) → (length == 0) ≡ false
    → curve_field length ≡ Then (Passes is_linear Unsupported) (λ _. Done any length)
long_curve length some = rw some refl

curve_is_read :
    (length : ℕ) → (length == 0) ≡ false → reads (curve_field length) (codes " LIN _ _ _") ≡ Ok length
unfolding reads
curve_is_read length some =
    ap (λ form. reads form (codes " LIN _ _ _")) (long_curve length some) ∙ rw (linear_is_read, curve_ends) refl

-- The fade-in or fade-out of an entry: its keyword, the entry with it, and whether it was given.
abbrev pub fade_keyword : (is_rise : Bool) → List ℕ
fade_keyword true = codes "Infade"
fade_keyword false = codes "Outfade"

abbrev pub with_fade : (is_rise : Bool) → OpenEntry → ℕ → OpenEntry
with_fade true = with_rise
with_fade false = with_fall

abbrev pub is_told : (is_rise : Bool) → OpenEntry → Bool
is_told true entry = entry.has_rise
is_told false entry = entry.has_fall

-- ---- a source

module _ (project : ListProject) (rate : IsTrue (is_rate project.rate)) (separators : IsTrue (are_separators project.separators))
  where
    last_optional_time :
        (time : Option ℕ) → IsTrue (is_time_of_day time)
        → value_at (MayTime project.rate) (32 ∷ time_text project time) ≡ Ok (time, [])
    last_optional_time time h =
        ap (λ text. value_at (MayTime project.rate) (32 ∷ text)) (sym (append-nil (time_text project time)))
        ∙ optional_time_field-written time project [] rate separators h refl

    last_time : (t : ℕ) → t ≤ day → value_at (Time project.rate) (32 ∷ time_text project (Some t)) ≡ Ok ((t, project.separators), [])
    last_time t h =
        ap (λ text. value_at (Time project.rate) (32 ∷ text)) (sym (append-nil (time_text project (Some t))))
        ∙ time_field-written project.rate t project.separators [] rate h separators refl

    middle_time :
        (t : ℕ) (rest : List ℕ) → t ≤ day
        → value_at (Time project.rate) (32 ∷ (time_text project (Some t) ++ (32 ∷ rest))) ≡ Ok ((t, project.separators), 32 ∷ rest)
    middle_time t rest h =
        time_field-written project.rate t project.separators (32 ∷ rest) rate h separators refl

    pub source_fields-written :
        (source : Source) → IsTrue (is_source source) → IsTrue (has_whole_texts source)
        → reads (source_fields project.rate source.number) (codes " (F) \""
        ++ (source.url ++ (codes "\" "
        ++ (source.uid ++ (codes " "
        ++ (time_text project source.start ++ (codes " " ++ time_text project source.length)))))))
        ≡ Ok source
    unfolding reads all_tokens
    source_fields-written source h k =
        let last = 32 ∷ time_text project source.length in
        let times = 32 ∷ (time_text project source.start ++ last) in
        let facts = source_facts source h k in
        rw (
          file_is_read (source.url ++ (codes "\" " ++ (source.uid ++ times))),
          url_field-written source.url (32 ∷ (source.uid ++ times)) facts.quoted facts.place,
          uid_field-written source.uid times facts.uid refl,
          optional_time_field-written source.start project last rate separators facts.start refl,
          last_optional_time source.length facts.length,
        )

    -- ---- an entry

    -- An entry before its fades.
    pub event_fields-written :
        (event : Event) → EventFacts event
        → reads (event_fields project.rate event.number) (codes " (Cut) I " ++ (number_text event.index
        ++ (codes " " ++ (channels_text event.source ++ (codes " " ++ (channels_text event.dest
        ++ (codes " " ++ (time_text project (Some event.source_in)
        ++ (codes " " ++ (time_text project (Some event.dest_in)
        ++ (codes " " ++ time_text project (Some event.dest_out))))))))))))
        ≡ Ok (record event { rise = record { length = 0 }; fall = record { length = 0 } }, project.separators)
    unfolding reads all_tokens
    event_fields-written event facts =
        let last = time_text project (Some event.dest_out) in
        let ends = time_text project (Some event.dest_in) ++ (32 ∷ last) in
        let times = time_text project (Some event.source_in) ++ (32 ∷ ends) in
        let dest = 32 ∷ (channels_text event.dest ++ (32 ∷ times)) in
        let channels = 32 ∷ (channels_text event.source ++ dest) in
        rw (
          cut_keyword_is_read (number_text event.index ++ channels),
          cut_is_read (number_text event.index ++ channels),
          number_field-written event.index channels facts.index refl,
          channels_field-written event.source dest facts.source refl,
          channels_field-written event.dest (32 ∷ times) facts.dest refl,
          facts.widths,
          middle_time event.source_in ends facts.source_in,
          middle_time event.dest_in last facts.dest_in,
          last_time event.dest_out facts.dest_out,
        )

    -- ---- a fade

    fade_fields-written :
        (length : ℕ) → length ≤ day → (length == 0) ≡ false
        → reads (fade_fields project.rate) (codes " " ++ (time_text project (Some length) ++ codes " LIN _ _ _")) ≡ Ok length
    unfolding reads
    fade_fields-written length h some =
        rw (optional_time_field-written (Some length) project (codes " LIN _ _ _") rate separators
        (grind (arith, nat_tests)) refl)
        (curve_is_read length some)

    pub fade_is_read :
        (is_rise : Bool) (entry : OpenEntry) (length : ℕ) → length ≤ day → (length == 0) ≡ false
        → is_told is_rise entry ≡ false
        → reads (entry_with project.rate entry (record { kind = Keyword; content = fade_keyword is_rise }))
        (codes " " ++ (time_text project (Some length) ++ codes " LIN _ _ _"))
        ≡ Ok (with_fade is_rise entry length)
    unfolding entry_keyword entry_with
    fade_is_read true entry length h some new =
        told_read (with_rise entry) entry.has_rise RepeatedFade (fade_fields project.rate) _ length new (fade_fields-written length h some)
    fade_is_read false entry length h some new =
        told_read (with_fall entry) entry.has_fall RepeatedFade (fade_fields project.rate) _ length new (fade_fields-written length h some)
