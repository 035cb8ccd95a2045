-- Numbers, channels and times are written as words, and read back as the same values.
use Rattle.std.proofs.Common.{◌≡◌, ℕ, ◌+◌, ◌/◌, ◌%◌, ◌<◌, ◌≤◌, Bool, true, false, List, [], ◌∷◌, ◌++◌, Option, Some, IsTrue, refl, ap, ◌∙◌, arith}
use Rattle.std.specs.Prelude.{decimal, length, replicate, ◌-◌, ◌==◌, ◌&&◌}
use Rattle.std.specs.List.{list_all}
use Rattle.std.proofs.lemmas.Bool.Decides.{nat_tests}
use Rattle.std.proofs.lemmas.Fmt.{length-decimal-le}
use Rattle.std.proofs.lemmas.List.{length-append, length-replicate}
use Rattle.std.proofs.lemmas.List.Folds.{list_all-append}
use Rattle.facts.specs.Tests.{and_both}
use Rattle.sampletime.specs.FrameRate.{is_rate}
use Rattle.sampletime.specs.RateLaws.{divides_day, frame_of, remainder_of}
use Rattle.sampletime.specs.TimeCode.{are_separators, day, is_digit, is_separator, text_of, text_of_parts}
use Rattle.sound_terms.specs.declared.Channels.{Channels}
use Rattle.list_terms.specs.Fields.{are_digits, channels_of, number_up_to}
use Rattle.list_terms.specs.NumberLaws.{channels_read, number_digits, number_read}
use Rattle.list_terms.specs.Spelling.{ChannelRun, IsNumber, OneChannel}
use Rattle.list_terms.specs.Tokens.{is_word_byte}
use Rattle.list_terms.specs.TokenLaws.{is_word}
use Rattle.list_terms.specs.WholeProject.{are_channels, is_number}
use Rattle.list_terms.specs.WrittenText.{channels_text, number_text}

-- ---- words

words_from_digits : (text : List ℕ) → list_all is_digit text ≡ true → list_all is_word_byte text ≡ true
words_from_digits [] h = refl
words_from_digits (b ∷ text) h = grind (arith, nat_tests, words_from_digits text)

all_digits : (text : List ℕ) → are_digits text ≡ true → list_all is_digit text ≡ true
all_digits text h = grind (arith, nat_tests)

digits_are_a_word : (text : List ℕ) → are_digits text ≡ true → is_word text ≡ true
digits_are_a_word [] h = absurd (cc)
digits_are_a_word (b ∷ text) h = words_from_digits (b ∷ text) (all_digits (b ∷ text) h)

number_spelled : (n : ℕ) → IsTrue (is_number n) → IsNumber 32767 (number_text n) n
number_spelled n h =
    let high : n ≤ 32767 = grind (arith, nat_tests) in
    let zeros = 4 - length (decimal n) in
    let digits = length-decimal-le 5 n (omega arith) (omega arith) (omega arith) in
    record {
      zeros = zeros;
      digits = refl;
      few = omega (arith, digits, length-append (replicate zeros 48) (decimal n), length-replicate {A = ℕ} zeros 48);
      above = grind (arith, nat_tests);
      below = high;
    }

pub number_is_a_word : (n : ℕ) → IsTrue (is_number n) → is_word (number_text n) ≡ true
number_is_a_word n h =
    digits_are_a_word (number_text n) (number_digits 32767 n (number_text n) (omega arith) (number_spelled n h))

pub number_is_read : (n : ℕ) → IsTrue (is_number n) → number_up_to 32767 (number_text n) ≡ Some n
number_is_read n h = number_read 32767 n (number_text n) (omega arith) (number_spelled n h)

-- ---- channels

is_word_append : (s t : List ℕ) → is_word s ≡ true → list_all is_word_byte t ≡ true → is_word (s ++ t) ≡ true
is_word_append [] t hs ht = absurd (cc)
is_word_append (b ∷ s) t hs ht =
    list_all-append is_word_byte (b ∷ s) t ∙ and_both (list_all is_word_byte (b ∷ s)) (list_all is_word_byte t) hs ht

channel_spelled : (n : ℕ) → 1 ≤ n → n ≤ 64 → IsNumber 64 (decimal n) n
channel_spelled n low high =
    let few = length-decimal-le 2 n (omega arith) (omega arith) (omega arith) in
    record { zeros = 0; digits = refl; few = omega (arith, few); above = low; below = high }

channel_digits : (n : ℕ) → 1 ≤ n → n ≤ 64 → are_digits (decimal n) ≡ true
channel_digits n low high = number_digits 64 n (decimal n) (omega arith) (channel_spelled n low high)

same_channels :
    (channels : Channels) → channels.first ≡ channels.last
    → let one : Option Channels = Some (record { first = channels.first; last = channels.first }) in one ≡ Some channels
same_channels channels e =
    ap (λ (last : ℕ). let c : Channels = record { first = channels.first; last = last } in Some c) e

-- Channels are written as one word that is read back as the same channels.
pub record IsReadAs (channels : Channels) (text : List ℕ) : Type 0 where
  pub word : is_word text ≡ true
  pub value : channels_of text ≡ Some channels

pub channels_are_read :
    (channels : Channels) → IsTrue (are_channels channels) → IsReadAs channels (channels_text channels)
channels_are_read channels h = by_test (channels.first == channels.last) refl where
  low : 1 ≤ channels.first
  low = grind (arith, nat_tests)

  order : channels.first ≤ channels.last
  order = grind (arith, nat_tests)

  high : channels.last ≤ 64
  high = grind (arith, nat_tests)

  first : are_digits (decimal channels.first) ≡ true
  first = channel_digits channels.first low (omega (arith, order, high))

  spelled : IsNumber 64 (decimal channels.first) channels.first
  spelled = channel_spelled channels.first low (omega (arith, order, high))

  by_test : (one : Bool) → (channels.first == channels.last) ≡ one → IsReadAs channels (channels_text channels)
  by_test true e = rw e (record {
    word = digits_are_a_word (decimal channels.first) first;
    value = channels_read _ _ (OneChannel (decimal channels.first) channels.first spelled)
        ∙ same_channels channels (grind (arith, nat_tests));
  })
  by_test false e = rw e (record {
    word = is_word_append (decimal channels.first) (126 ∷ decimal channels.last)
        (digits_are_a_word (decimal channels.first) first)
        (words_from_digits (decimal channels.last)
        (all_digits (decimal channels.last) (channel_digits channels.last (omega (arith, low, order)) high)));
    value = channels_read _ channels (ChannelRun (decimal channels.first) (decimal channels.last) channels spelled
        (channel_spelled channels.last (omega (arith, low, order)) high) order);
  })

-- ---- times

digit_is_of_words : (n : ℕ) → n < 10 → is_word_byte (48 + n) ≡ true
digit_is_of_words n h = grind (arith, nat_tests)

separator_is_of_words : (b : ℕ) → is_separator b ≡ true → is_word_byte b ≡ true
separator_is_of_words b h = grind (arith, nat_tests)

-- Word bytes only.
record AreOfWords (text : List ℕ) : Type 0 where
  each : list_all is_word_byte text ≡ true

nothing : AreOfWords []
nothing = record { each = refl }

with_byte : (b : ℕ) {rest : List ℕ} → is_word_byte b ≡ true → AreOfWords rest → AreOfWords (b ∷ rest)
with_byte b h all = record { each = rw h all.each }

with_digit : (n : ℕ) {rest : List ℕ} → n < 10 → AreOfWords rest → AreOfWords ((48 + n) ∷ rest)
with_digit n h all = with_byte (48 + n) (digit_is_of_words n h) all

with_two : (n : ℕ) {rest : List ℕ} → n < 100 → AreOfWords rest → AreOfWords ((48 + n / 10) ∷ (48 + n % 10) ∷ rest)
with_two n h all = with_digit (n / 10) (omega arith) (with_digit (n % 10) (omega arith) all)

parts_are_of_words :
    (h m s f r a b c d : ℕ) → h < 100 → m < 100 → s < 100 → f < 100 → r < 10000 → is_word_byte a ≡ true
    → is_word_byte b ≡ true
    → is_word_byte c ≡ true → is_word_byte d ≡ true → AreOfWords (text_of_parts h m s f r (a ∷ b ∷ c ∷ d ∷ []))
parts_are_of_words h m s f r a b c d hh hm hs hf hr ia ib ic id =
    with_two h hh (with_byte a ia (with_two m hm
    (with_byte b ib (with_two s hs (with_byte c ic (with_two f hf (with_byte d id
    (with_digit (r / 1000) (omega arith) (with_digit (r / 100 % 10) (omega arith)
    (with_digit (r / 10 % 10) (omega arith)
    (with_digit (r % 10) (omega arith) nothing)))))))))))

four_true : (a b c d : Bool) → (a && b && c && d) ≡ true → (a ≡ true) × (b ≡ true) × (c ≡ true) × (d ≡ true)
four_true true true true d h = (refl, refl, refl, h)
four_true true true false d h = absurd (cc)
four_true true false c d h = absurd (cc)
four_true false b c d h = absurd (cc)

pub time_is_a_word :
    (rate t : ℕ) (separators : List ℕ) → IsTrue (is_rate rate) → t ≤ day → IsTrue (are_separators separators)
    → is_word (text_of rate t separators) ≡ true
time_is_a_word rate t (a ∷ b ∷ c ∷ d ∷ []) known h i =
    let divides = divides_day rate known in
    let each = four_true (is_separator a) (is_separator b) (is_separator c) (is_separator d) i in
    let ia = separator_is_of_words a each.0 in
    let ib = separator_is_of_words b each.1 in
    let ic = separator_is_of_words c each.2 in
    let id = separator_is_of_words d each.3 in
    (parts_are_of_words (t / 172800000) (t / 2880000 % 60) (t / 48000 % 60) (frame_of rate t) (remainder_of rate t) a b c d
    (omega arith) (omega arith) (omega arith) (divides.frame t) (divides.remainder t) ia ib ic id).each
time_is_a_word rate t [] known h i = absurd (cc)
time_is_a_word rate t (a ∷ []) known h i = absurd (cc)
time_is_a_word rate t (a ∷ b ∷ []) known h i = absurd (cc)
time_is_a_word rate t (a ∷ b ∷ c ∷ []) known h i = absurd (cc)
time_is_a_word rate t (a ∷ b ∷ c ∷ d ∷ e ∷ rest) known h i = absurd (cc)
