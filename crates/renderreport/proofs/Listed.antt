-- Numbers separated by commas, extended by one more or by any others.
use Rattle.std.proofs.Common.{◌≡◌, ◌∙◌, ◌+◌, ◌++◌, ◌∷◌, [], Bool, true, false, ◌||◌, ℕ, zero, suc, List, add-one, ap, append_assoc, append-nil, if◌then◌else◌, refl, sym, arith}
use native.Mathlib.Numerals.{unary_clauses}
use Rattle.renderreport.specs.Parts.{channel_text, item_text, listed, listed_behind}
use Rattle.renderreport.specs.Report.{channels_to, is_marked}

-- the list isn't empty
abbrev pub is_some_listed : List ℕ → Bool
is_some_listed [] = false
is_some_listed (n ∷ ns) = true

-- a list of numbers followed by others
pub both : (later : Bool) (xs ys : List ℕ)
    → listed_behind later (xs ++ ys) ≡ listed_behind later xs ++ listed_behind (later || is_some_listed xs) ys
both true [] ys = refl
both false [] ys = refl
both true (x ∷ xs) ys =
    ap (λ (text : List ℕ). item_text true x ++ text) (both true xs ys)
    ∙ sym (append_assoc (item_text true x) (listed_behind true xs) (listed_behind true ys))
both false (x ∷ xs) ys =
    ap (λ (text : List ℕ). item_text false x ++ text) (both true xs ys)
    ∙ sym (append_assoc (item_text false x) (listed_behind true xs) (listed_behind true ys))

-- one more channel, if its bit is set
module _ (mask n : ℕ) where
  abbrev own : Bool → List ℕ
  own set = if set then suc n ∷ [] else []

  abbrev text : Bool → List ℕ
  text set = if set then item_text (is_some_listed (channels_to mask n)) (n + 1) else []

  listed_by : (set : Bool) → listed (channels_to mask n) ++ text set ≡ listed (channels_to mask n ++ own set)
  listed_by true = rw (add-one n)
      (ap (λ (t : List ℕ). listed (channels_to mask n) ++ t)
      (sym (append-nil (item_text (is_some_listed (channels_to mask n)) (suc n))))
      ∙ sym (both false (channels_to mask n) (suc n ∷ [])))
  listed_by false = rw (append-nil (channels_to mask n), append-nil (listed (channels_to mask n))) refl

  none_or_some : (xs : List ℕ) → (is_some_listed xs || false) ≡ is_some_listed xs
  none_or_some [] = refl
  none_or_some (x ∷ xs) = refl

  any_or_one : (xs : List ℕ) → (is_some_listed xs || true) ≡ is_some_listed (xs ++ suc n ∷ [])
  any_or_one [] = refl
  any_or_one (x ∷ xs) = refl

  later_by : (set : Bool)
      → (is_some_listed (channels_to mask n) || set) ≡ is_some_listed (channels_to mask n ++ own set)
  later_by true = any_or_one (channels_to mask n)
  later_by false = rw (append-nil (channels_to mask n)) (none_or_some (channels_to mask n))

  pub one_more_listed : (later : Bool) → later ≡ is_some_listed (channels_to mask n)
      → listed (channels_to mask n) ++ channel_text later mask n ≡ listed (channels_to mask (n + 1))
  unfolding channel_text
  one_more_listed later is =
      ap (λ (b : Bool). listed (channels_to mask n) ++ channel_text b mask n) is ∙ listed_by (is_marked mask n)
      ∙ ap (λ (m : ℕ). listed (channels_to mask m)) (sym (add-one n))

  pub one_more_later : (later : Bool) → later ≡ is_some_listed (channels_to mask n)
      → (later || is_marked mask n) ≡ is_some_listed (channels_to mask (n + 1))
  one_more_later later is =
      ap (λ (b : Bool). b || is_marked mask n) is ∙ later_by (is_marked mask n)
      ∙ ap (λ (m : ℕ). is_some_listed (channels_to mask m)) (sym (add-one n))

-- the numbers of the `more` channels from n on whose bits are set
abbrev rest_of : (mask n more : ℕ) → List ℕ
rest_of mask n zero = []
rest_of mask n (suc more) = (if is_marked mask n then suc n ∷ [] else []) ++ rest_of mask (suc n) more

front_of : (mask n more : ℕ) → channels_to mask n ++ rest_of mask n more ≡ channels_to mask (n + more)
front_of mask n zero = simp unary_clauses (append-nil (channels_to mask n))
front_of mask n (suc more) =
    let same : suc n + more ≡ n + suc more = omega arith in
    sym (append_assoc (channels_to mask n) (if is_marked mask n then suc n ∷ [] else []) (rest_of mask (suc n) more))
    ∙ front_of mask (suc n) more ∙ ap (channels_to mask) same

-- the text of those channels
abbrev pub text_behind : (mask n more : ℕ) → List ℕ
text_behind mask n more = listed_behind (is_some_listed (channels_to mask n)) (rest_of mask n more)

pub all_listed : (mask n more all : ℕ) → n + more ≡ all
    → listed (channels_to mask n) ++ text_behind mask n more ≡ listed (channels_to mask all)
all_listed mask n more all is =
    sym (both false (channels_to mask n) (rest_of mask n more)) ∙ ap listed (front_of mask n more)
    ∙ ap (λ (k : ℕ). listed (channels_to mask k)) is

-- one more channel and all channels after it
pub all_but : (mask n more all : ℕ) (later : Bool) → later ≡ is_some_listed (channels_to mask n) → (n + 1) + more ≡ all
    → listed (channels_to mask n) ++ (channel_text later mask n ++ text_behind mask (n + 1) more)
    ≡ listed (channels_to mask all)
all_but mask n more all later is long =
    sym (append_assoc (listed (channels_to mask n)) (channel_text later mask n) (text_behind mask (n + 1) more))
    ∙ ap (λ (t : List ℕ). t ++ text_behind mask (n + 1) more) (one_more_listed mask n later is)
    ∙ all_listed mask (n + 1) more all long
