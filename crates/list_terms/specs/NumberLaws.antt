-- Laws of decimal numbers: the digits that print a number spell it, also with zeros in front.
use Rattle.std.proofs.Common.{◌≡◌, ℕ, zero, suc, ◌+◌, ◌-◌, ◌*◌, ◌/◌, ◌%◌, ◌<◌, ◌≤◌, Bool, true, false, List, [], ◌∷◌, ◌++◌, length, Option, None, Some, refl, ap, sym, subst, ◌∙◌, append_assoc, length-append, arith}
use Rattle.std.specs.Prelude.{decimal, if◌then◌else◌, nat_le, replicate, unwrap_or, ◌==◌, ◌&&◌}
use Rattle.std.specs.List.{before_first, fold, list_all}
use Rattle.std.proofs.lemmas.Bool.Decides.{nat_tests}
use Rattle.std.proofs.lemmas.Fmt.{decimal_by_steps, decimal_digit, decimal_nonempty, decimal_step}
use Rattle.std.proofs.lemmas.List.{append-nil}
use Rattle.std.proofs.lemmas.List.Folds.{list_all-append}
use Rattle.std.proofs.lemmas.List.Sums.{fold-append}
use Rattle.facts.specs.Tests.{and_both, and_left, and_right}
use Rattle.sampletime.specs.TimeCode.{is_digit}
use Rattle.sound_terms.specs.declared.Channels.{Channels}
use Rattle.list_terms.specs.Fields.{are_digits, channel_range, channels_of, is_tilde, number_up_to, spelled}
use Rattle.list_terms.specs.FieldLaws.{before_more, before_none, before_tilde, behind_none, behind_tilde}
use Rattle.list_terms.specs.Names.{behind_byte}
use Rattle.list_terms.specs.Spelling.{ChannelRun, IsNumber, OneChannel, SpellsChannels}

-- The number with one more digit.
abbrev with_digit : ℕ → ℕ → ℕ
with_digit n digit = n * 10 + (digit - 48)

grows : (a : ℕ) (digits : List ℕ) → a ≤ fold with_digit a digits
grows a [] = omega arith
grows a (d ∷ digits) = let later = grows (with_digit a d) digits in omega (arith, later)

digit_low : (d : ℕ) → is_digit d ≡ true → 48 ≤ d
digit_low d h = grind (arith, nat_tests)

digit_high : (d : ℕ) → is_digit d ≡ true → d ≤ 57
digit_high d h = grind (arith, nat_tests)

last_digit :
    (a d : ℕ) → 1 ≤ a → 48 ≤ d → d ≤ 57 → with_digit a d ≤ 32767 → decimal (with_digit a d) ≡ decimal a ++ d ∷ []
last_digit a d some low high small =
    let n = with_digit a d in
    let tens : n / 10 ≡ a = omega arith in
    let ones : 48 + n % 10 ≡ d = omega arith in
    decimal_step n (omega arith) (omega arith) ∙ rw (tens, ones) refl

more_digits :
    (a : ℕ) (digits : List ℕ) → 1 ≤ a → list_all is_digit digits ≡ true → fold with_digit a digits ≤ 32767
    → decimal (fold with_digit a digits) ≡ decimal a ++ digits
more_digits a [] some all small = sym (append-nil (decimal a))
more_digits a (d ∷ digits) some all small =
    let is = and_left (is_digit d) (list_all is_digit digits) all in
    let next = with_digit a d in
    let under = grows next digits in
    more_digits next digits (omega arith) (and_right (is_digit d) (list_all is_digit digits) all) small
    ∙ ap (λ front. front ++ digits)
    (last_digit a d some (digit_low d is) (digit_high d is) (omega (arith, under, small)))
    ∙ append_assoc (decimal a) (d ∷ []) digits

-- Digits are zeros followed by the number's decimal form.
record IsPrinted (text : List ℕ) : Type 0 where
  zeros : ℕ
  is : text ≡ replicate zeros 48 ++ decimal (spelled text)

printed : (text : List ℕ) → list_all is_digit text ≡ true → 1 ≤ spelled text → spelled text ≤ 32767 → IsPrinted text
printed [] all some small = absurd (omega arith)
printed (d ∷ text) all some small = by_zero (d == 48) refl (λ s m. printed text others s m) where
  others : list_all is_digit text ≡ true
  others = and_right (is_digit d) (list_all is_digit text) all

  is : is_digit d ≡ true
  is = and_left (is_digit d) (list_all is_digit text) all

  by_zero :
      (none : Bool) → (d == 48) ≡ none → (1 ≤ spelled text → spelled text ≤ 32767 → IsPrinted text)
      → IsPrinted (d ∷ text)
  by_zero true e ih =
      let zero_digit : d ≡ 48 = grind (arith, nat_tests) in
      let same : spelled (d ∷ text) ≡ spelled text = rw zero_digit refl in
      let r = ih (omega (arith, some, same)) (omega (arith, small, same)) in
      record {
        zeros = suc r.zeros;
        is = ap (λ b. b ∷ text) zero_digit
            ∙ ap (λ t. 48 ∷ t) (r.is ∙ ap (λ m. replicate r.zeros 48 ++ decimal m) (sym same));
      }
  by_zero false e ih =
      let low = digit_low d is in
      let high = digit_high d is in
      let over : 49 ≤ d = grind (arith, nat_tests) in
      let a = with_digit 0 d in
      let one : decimal a ≡ d ∷ [] = decimal_digit a (omega arith) ∙ ap (λ x. x ∷ []) (omega arith) in
      record { zeros = 0; is = sym (more_digits a text (omega arith) others small ∙ ap (λ front. front ++ text) one) }

-- ---- printed numbers are read back

spelled-zeros : (zeros : ℕ) (text : List ℕ) → spelled (replicate zeros 48 ++ text) ≡ spelled text
spelled-zeros zero text = refl
spelled-zeros (suc zeros) text = spelled-zeros zeros text

all_append :
    (a b : List ℕ) → list_all is_digit a ≡ true → list_all is_digit b ≡ true → list_all is_digit (a ++ b) ≡ true
all_append a b h k = list_all-append is_digit a b ∙ and_both (list_all is_digit a) (list_all is_digit b) h k

all_zeros : (zeros : ℕ) → list_all is_digit (replicate zeros 48) ≡ true
all_zeros zero = refl
all_zeros (suc zeros) = all_zeros zeros

is_one_digit : (d : ℕ) → d < 10 → is_digit (48 + d) ≡ true
is_one_digit d h = grind (arith, nat_tests)

-- Digits that spell the number they print.
record Prints (n : ℕ) (text : List ℕ) : Type 0 where
  value : spelled text ≡ n
  digits : list_all is_digit text ≡ true

one_digit : (n : ℕ) → n < 10 → Prints n ((48 + n) ∷ [])
one_digit n one =
    record { value = omega arith; digits = and_both (is_digit (48 + n)) true (is_one_digit n one) refl }

one_more :
    (n : ℕ) (front : List ℕ) → 10 ≤ n → Prints (n / 10) front → Prints n (front ++ ((48 + n % 10) ∷ []))
one_more n front more h = record {
  value = fold-append with_digit 0 front ((48 + n % 10) ∷ [])
      ∙ ap (λ a. with_digit a (48 + n % 10)) h.value ∙ omega arith;
  digits = all_append front ((48 + n % 10) ∷ []) h.digits
      (and_both (is_digit (48 + n % 10)) true (is_one_digit (n % 10) (omega arith)) refl);
}

prints : (n : ℕ) → n ≤ 32767 → Prints n (decimal n)
prints n small = decimal_by_steps Prints one_digit one_more n (omega arith)

-- ---- numbers up to a limit

if_some : {X : Type 0} (test : Bool) (x y : X) → (if test then Some x else None) ≡ Some y → (test ≡ true) × (x ≡ y)
if_some true x y e = (refl, cc)
if_some false x y e = absurd (cc)

up_to : (n limit : ℕ) → nat_le n limit ≡ true → n ≤ limit
up_to n limit h = grind (arith, nat_tests)

is_up_to : (n limit : ℕ) → n ≤ limit → nat_le n limit ≡ true
is_up_to n limit h = grind (arith, nat_tests)

pub number_told :
    (limit n : ℕ) (text : List ℕ) → limit ≤ 32767 → number_up_to limit text ≡ Some n → IsNumber limit text n
unfolding number_up_to
number_told limit n text low e =
    let v = spelled text in
    let t = if_some (are_digits text && nat_le 1 v && nat_le v limit) v n e in
    let first = and_left (are_digits text && nat_le 1 v) (nat_le v limit) t.0 in
    let digits = and_left (are_digits text) (nat_le 1 v) first in
    let some = up_to 1 v (and_right (are_digits text) (nat_le 1 v) first) in
    let below = up_to v limit (and_right (are_digits text && nat_le 1 v) (nat_le v limit) t.0) in
    let lengths = and_left (nat_le 1 (length text) && nat_le (length text) 6) (list_all is_digit text) digits in
    let p = printed text
    (and_right (nat_le 1 (length text) && nat_le (length text) 6) (list_all is_digit text) digits) some
    (omega (arith, below, low)) in
    record {
      zeros = p.zeros;
      digits = p.is ∙ ap (λ m. replicate p.zeros 48 ++ decimal m) t.1;
      few = up_to (length text) 6 (and_right (nat_le 1 (length text)) (nat_le (length text) 6) lengths);
      above = omega (arith, some, t.1);
      below = omega (arith, below, t.1);
    }

-- A number in one to six digits.
record HasDigits (text : List ℕ) (n : ℕ) : Type 0 where
  digits : are_digits text ≡ true
  value : spelled text ≡ n

has_digits : (limit n : ℕ) (text : List ℕ) → limit ≤ 32767 → IsNumber limit text n → HasDigits text n
has_digits limit n text low h =
    let below = h.below in
    let p = prints n (omega (arith, below, low)) in
    let all : list_all is_digit text ≡ true =
    ap (list_all is_digit) h.digits ∙ all_append (replicate h.zeros 48) (decimal n) (all_zeros h.zeros) p.digits in
    let some = decimal_nonempty n (omega (arith, below, low)) in
    let length_is : length text ≡ length (replicate h.zeros 48) + length (decimal n) = ap length h.digits
    ∙ length-append (replicate h.zeros 48) (decimal n) in
    let lengths = and_both (nat_le 1 (length text)) (nat_le (length text) 6)
    (is_up_to 1 (length text) (omega (arith, length_is, some)))
    (is_up_to (length text) 6 h.few) in
    record {
      digits = and_both (nat_le 1 (length text) && nat_le (length text) 6) (list_all is_digit text) lengths all;
      value = ap spelled h.digits ∙ (spelled-zeros h.zeros (decimal n) ∙ p.value);
    }

pub number_read :
    (limit n : ℕ) (text : List ℕ) → limit ≤ 32767 → IsNumber limit text n → number_up_to limit text ≡ Some n
unfolding number_up_to
number_read limit n text low h =
    let d = has_digits limit n text low h in
    rw (d.digits, d.value, is_up_to 1 n h.above, is_up_to n limit h.below) refl

pub number_digits : (limit n : ℕ) (text : List ℕ) → limit ≤ 32767 → IsNumber limit text n → are_digits text ≡ true
number_digits limit n text low h = (has_digits limit n text low h).digits

all_digits : (limit n : ℕ) (text : List ℕ) → limit ≤ 32767 → IsNumber limit text n → list_all is_digit text ≡ true
all_digits limit n text low h =
    and_right (nat_le 1 (length text) && nat_le (length text) 6) (list_all is_digit text)
    (number_digits limit n text low h)

-- ---- channels

pub channels_read :
    (text : List ℕ) (channels : Channels) → SpellsChannels text channels → channels_of text ≡ Some channels
unfolding channels_of
channels_read text channels (OneChannel t channel h) =
    let digits = all_digits 64 channel t (omega arith) h in
    rw (
      before_none t digits,
      behind_none t digits,
      number_read 64 channel t (omega arith) h,
      is_up_to channel channel
          (omega arith),
    ) refl
channels_read text channels (ChannelRun front back c a b order) =
    let digits = all_digits 64 c.first front (omega arith) a in
    rw (
      before_tilde front back digits,
      behind_tilde front back digits,
      number_read 64 c.first front (omega arith) a,
      number_read 64 c.last back (omega arith) b,
      is_up_to c.first c.last order,
    ) refl

-- Either the text has no tilde, or the text is split at its first one.
abbrev IsSplit : List ℕ → Option (List ℕ) → Type 0
IsSplit text None = before_first is_tilde text ≡ text
IsSplit text (Some back) = text ≡ before_first is_tilde text ++ (126 ∷ back)

split : (text : List ℕ) → IsSplit text (behind_byte 126 text)
split [] = refl
split (b ∷ text) = by_test (b == 126) refl (split text) where
  by_behind : (behind : Option (List ℕ)) → (b == 126) ≡ false → IsSplit text behind → IsSplit (b ∷ text) behind
  by_behind None e s = before_more b text e ∙ ap (λ t. b ∷ t) s
  by_behind (Some back) e s = ap (λ t. b ∷ t) s ∙ ap (λ t. t ++ (126 ∷ back)) (sym (before_more b text e))

  by_test :
      (tilde : Bool) → (b == 126) ≡ tilde → IsSplit text (behind_byte 126 text)
      → IsSplit (b ∷ text) (behind_byte 126 (b ∷ text))
  by_test true e s =
      let is : b ≡ 126 = grind (arith, nat_tests) in
      rw is refl
  by_test false e s = rw e (by_behind (behind_byte 126 text) e s)

range_is : (first last : Option ℕ) (channels : Channels) → channel_range first last ≡ Some channels
    → (first ≡ Some channels.first) × ((last ≡ Some channels.last) × (channels.first ≤ channels.last))
range_is None last channels e = absurd (cc)
range_is (Some first) None channels e = absurd (cc)
range_is (Some first) (Some last) channels e =
    let t = if_some (nat_le first last) (record { first = first; last = last }) channels e in
    let order = up_to first last t.0 in
    rw (← t.1) (refl, (refl, order))

channels_split :
    (text : List ℕ) (channels : Channels) → (behind : Option (List ℕ)) → IsSplit text behind
    → channel_range (number_up_to 64 (before_first is_tilde text)) (number_up_to 64 (unwrap_or behind text))
    ≡ Some channels → SpellsChannels text channels
channels_split text channels None s e =
    let r = range_is (number_up_to 64 (before_first is_tilde text)) (number_up_to 64 text) channels e in
    let whole : number_up_to 64 text ≡ Some channels.first = ap (number_up_to 64) (sym s) ∙ r.0 in
    let same : channels.first ≡ channels.last = let both : Some channels.first ≡ Some channels.last = sym whole
    ∙ r.1.0 in cc in
    let one = OneChannel text channels.first (number_told 64 channels.first text (omega arith) whole) in
    subst (λ last. SpellsChannels text (record { first = channels.first; last = last })) same one
channels_split text channels (Some back) s e =
    let front = before_first is_tilde text in
    let r = range_is (number_up_to 64 front) (number_up_to 64 back) channels e in
    let run = ChannelRun front back channels (number_told 64 channels.first front (omega arith) r.0)
    (number_told 64 channels.last back (omega arith) r.1.0) r.1.1 in
    subst (λ t. SpellsChannels t channels) (sym s) run

pub channels_told :
    (text : List ℕ) (channels : Channels) → channels_of text ≡ Some channels → SpellsChannels text channels
unfolding channels_of
channels_told text channels e = channels_split text channels (behind_byte 126 text) (split text) e
