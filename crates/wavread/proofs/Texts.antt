-- Fields of a `bext` chunk from the part that is read.
use Rattle.std.proofs.Common.{◌≡◌, ℕ, ◌+◌, ◌-◌, ◌<◌, ◌≤◌, Bool, true, false, nat_le, nat_lt, List, [], None, Some, length, take, drop, refl, sym, ap, ◌∙◌, arith, le-leb, length-take, length-drop}
use Rattle.std.proofs.lemmas.Bool.Decides.{nat_tests}
use Rattle.std.proofs.lemmas.List.{drop-take, drop-drop, take-take, take_all, drop_all}
use Rattle.byteorder.specs.Endian.{little_number}
use Rattle.byteorder.specs.Numbers.{little_from-take}
use Rattle.sound_terms.specs.declared.Span.{Span}
use Rattle.sound_terms.specs.Chunks.{number_at}
use Rattle.sound_terms.specs.Sounds.{bytes_of_span, history_limit}
use Rattle.sound_terms.specs.Bext.{bext_of}
use Rattle.wavread.specs.declared.told.Told.{Told}
use Rattle.wavread.specs.Told.{TellsAll}

-- the contents have the length of the chunk
length-contents : (file : List ℕ) (span : Span) → span.at + span.length ≤ length file
    → length (bytes_of_span file span) ≡ span.length
length-contents file span inside =
    let rest = length-drop span.at file in
    length-take span.length (drop span.at file) ∙ omega (arith, rest)

-- a chunk that is too short
pub short_told : (file : List ℕ) (span : Span) (told : Told) → span.at + span.length ≤ length file → span.length < 346
    → told.bext ≡ None → told.history.items ≡ [] → told.short ≡ true → told.cut ≡ false
    → TellsAll (Some span) (bytes_of_span file span) told
short_told file span told inside few none empty short cut =
    let long = length-contents file span inside in
    let part : nat_le 346 (length (bytes_of_span file span)) ≡ false = grind (arith, nat_tests) in
    let small : nat_lt (602 + history_limit) (length (bytes_of_span file span)) ≡ false = grind (arith, nat_tests) in
    let nothing : drop 602 (bytes_of_span file span) ≡ [] = drop_all 602 (bytes_of_span file span) (omega arith) in
    record {
      text = rw (none, part) refl;
      time_reference = rw (none, part) refl;
      history = empty ∙ sym (ap (take history_limit) nothing);
      short = short ∙ sym (rw part refl);
      cut = cut ∙ sym small;
    }

-- the fields of a chunk that is long enough
fields_told : (file : List ℕ) (span : Span) → 346 ≤ span.length → span.at + span.length ≤ length file
    → bext_of (take 346 (drop span.at file))
    ≡ Some (record {
      text = take 338 (bytes_of_span file span);
      time_reference = number_at 8 338 (bytes_of_span file span);
    })
fields_told file span whole inside =
    let rest : List ℕ = drop span.at file in
    let behind = length-drop span.at file in
    let read : length (take 346 rest) ≡ 346 = length-take 346 rest ∙ omega (arith, behind) in
    let enough : nat_le 346 (length (take 346 rest)) ≡ true = le-leb 346 (length (take 346 rest)) (omega arith) in
    let text : take 338 (take 346 rest) ≡ take 338 (take span.length rest) =
    take-take 338 346 rest (omega arith) ∙ sym (take-take 338 span.length rest (omega arith)) in
    let split : span.length ≡ 338 + (span.length - 338) = omega arith in
    let front : little_number 8 (drop 338 (take 346 rest)) ≡ little_number 8 (drop 338 rest) =
    ap (little_number 8) (drop-take 338 8 rest) ∙ little_from-take 0 8 8 (drop 338 rest) (omega arith) in
    let there : little_number 8 (drop 338 (take span.length rest)) ≡ little_number 8 (drop 338 rest) =
    ap (little_number 8) (ap (λ n. drop 338 (take n rest)) split ∙ drop-take 338 (span.length - 338) rest)
    ∙ little_from-take 0 8 (span.length - 338) (drop 338 rest) (omega arith) in
    rw (enough, text, front, there)

-- a chunk that is long enough
pub whole_told : (file : List ℕ) (span : Span) (told : Told) → 346 ≤ span.length → span.at + span.length ≤ length file
    → told.bext ≡ bext_of (take 346 (drop span.at file))
    → told.history.items ≡ take history_limit (drop 602 (bytes_of_span file span))
    → told.short ≡ false → told.cut ≡ nat_lt (602 + history_limit) span.length
    → TellsAll (Some span) (bytes_of_span file span) told
whole_told file span told whole inside fields history short cut =
    let long = length-contents file span inside in
    let enough : nat_le 346 (length (bytes_of_span file span)) ≡ true =
    le-leb 346 (length (bytes_of_span file span)) (omega arith) in
    let read = fields ∙ fields_told file span whole inside in
    record {
      text = rw (read, enough) refl;
      time_reference = rw (read, enough) refl;
      history = history;
      short = short ∙ sym (rw enough refl);
      cut = cut ∙ sym (ap (nat_lt (602 + history_limit)) long);
    }

-- the CodingHistory of the chunk: empty, or the bytes read
pub no_history : (file : List ℕ) (span : Span) → span.at + span.length ≤ length file → span.length ≤ 602
    → [] ≡ take history_limit (drop 602 (bytes_of_span file span))
no_history file span inside few =
    let long = length-contents file span inside in
    sym (ap (take history_limit) (drop_all 602 (bytes_of_span file span) (omega arith)))

pub history_read : (file : List ℕ) (span : Span) (count : ℕ) (history : List ℕ) → 602 < span.length
    → (65536 < span.length - 602 → count ≡ 65536)
    → (span.length - 602 ≤ 65536 → count ≡ span.length - 602)
    → history ≡ take count (drop (span.at + 602) file)
    → history ≡ take history_limit (drop 602 (bytes_of_span file span))
history_read file span count history long most all read =
    let split : span.length ≡ 602 + (span.length - 602) = omega arith in
    let behind : List ℕ = drop (span.at + 602) file in
    let there : drop 602 (bytes_of_span file span) ≡ take (span.length - 602) behind =
    ap (λ n. drop 602 (take n (drop span.at file))) split ∙ drop-take 602 (span.length - 602) (drop span.at file)
    ∙ ap (take (span.length - 602)) (drop-drop 602 span.at file) in
    read ∙ by_size (nat_le (span.length - 602) 65536) refl ∙ sym (ap (take history_limit) there) where
      by_size : (small : Bool) → nat_le (span.length - 602) 65536 ≡ small
          → take count (drop (span.at + 602) file) ≡ take 65536 (take (span.length - 602) (drop (span.at + 602) file))
      by_size true small =
          let fits : span.length - 602 ≤ 65536 = grind (arith, nat_tests) in
          let behind : List ℕ = drop (span.at + 602) file in
          ap (λ n. take n behind) (all fits)
          ∙ sym (take_all 65536 (take (span.length - 602) behind)
          (omega (arith, length-take (span.length - 602) behind)))
      by_size false large =
          let past : 65536 < span.length - 602 = grind (arith, nat_tests) in
          ap (λ n. take n (drop (span.at + 602) file)) (most past)
          ∙ sym (take-take 65536 (span.length - 602) (drop (span.at + 602) file) (omega arith))

-- a CodingHistory longer than the limit
pub cut_told : (n : ℕ) → 602 < n → nat_lt 65536 (n - 602) ≡ nat_lt (602 + history_limit) n
cut_told n long = by_test (nat_lt 65536 (n - 602)) refl where
  by_test : (b : Bool) → nat_lt 65536 (n - 602) ≡ b → nat_lt 65536 (n - 602) ≡ nat_lt (602 + history_limit) n
  by_test true past =
      let over : nat_lt (602 + history_limit) n ≡ true = grind (arith, nat_tests) in
      past ∙ sym over
  by_test false small =
      let under : nat_lt (602 + history_limit) n ≡ false = grind (arith, nat_tests) in
      small ∙ sym under
