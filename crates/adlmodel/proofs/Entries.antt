-- Map entries whose keys are the numbers of their sources.
use Rattle.std.proofs.Common.{◌≡◌, ℕ, ◌+◌, ◌<◌, Bool, true, false, List, [], ◌∷◌, ◌++◌, Option, Some, refl, ap, sym, subst, ◌∙◌, cond, arith, length, take, drop, get_or}
use Rattle.std.specs.Prelude.{if◌then◌else◌, nat_eq, ◌==◌, is_some, None}
use Rattle.std.specs.List.{list_any}
use Rattle.std.specs.Map.{keys_of, lookup, values_of}
use Rattle.std.proofs.lemmas.Bool.Decides.{nat_tests}
use Rattle.std.proofs.lemmas.List.{drop_more, take-append-drop}
use Rattle.list_terms.specs.Project.{Source}
use Rattle.facts.specs.Distinct.{not_taken}
use Rattle.list_terms.specs.WholeProject.{AreDistinct, index_numbers}
use Rattle.adlmodel.specs.Numbered.{source_of}

abbrev pub AreNumbered : List (ℕ × Source) → Type 0
AreNumbered es = keys_of es ≡ index_numbers (values_of es)

record IsCons (k : ℕ) (ks : List ℕ) (n : ℕ) (ns : List ℕ) : Type 0 where
  head : k ≡ n
  tail : ks ≡ ns

uncons : (k n : ℕ) (ks ns : List ℕ) → k ∷ ks ≡ n ∷ ns → IsCons k ks n ns
uncons k n ks ns e = record { head = cc; tail = cc }

same_test : (a b : ℕ) → (a == b) ≡ (b == a)
same_test a b = grind (arith, nat_tests)

same_choice : (b : Bool) (x y : Option Source) → cond b x y ≡ (if b then x else y)
same_choice true x y = refl
same_choice false x y = refl

pub found : (es : List (ℕ × Source)) (n : ℕ) → AreNumbered es → lookup (λ k. nat_eq n k) es ≡ source_of (values_of es) n
found [] n h = refl
found (e ∷ es) n h =
    let u = uncons e.0 e.1.number (keys_of es) (index_numbers (values_of es)) h in
    rw (u.head, found es n u.tail, same_test n e.1.number)
    (same_choice (e.1.number == n) (Some e.1) (source_of (values_of es) n))

pub any_of_number : (ss : List Source) (n : ℕ) → is_some (source_of ss n) ≡ list_any (λ s. s.number == n) ss
any_of_number [] n = refl
any_of_number (s ∷ ss) n = grind (arith, nat_tests, any_of_number ss n)

pub keys_push : (es : List (ℕ × Source)) (k : ℕ) (s : Source) → keys_of (es ++ (k, s) ∷ []) ≡ keys_of es ++ k ∷ []
keys_push [] k s = refl
keys_push (e ∷ es) k s = ap (λ ks. e.0 ∷ ks) (keys_push es k s)

pub values_push : (es : List (ℕ × Source)) (k : ℕ) (s : Source) → values_of (es ++ (k, s) ∷ []) ≡ values_of es ++ s ∷ []
values_push [] k s = refl
values_push (e ∷ es) k s = ap (λ vs. e.1 ∷ vs) (values_push es k s)

pub numbers_push : (ss : List Source) (s : Source) → index_numbers (ss ++ s ∷ []) ≡ index_numbers ss ++ s.number ∷ []
numbers_push [] s = refl
numbers_push (x ∷ ss) s = ap (λ ns. x.number ∷ ns) (numbers_push ss s)

numbered_push : (es : List (ℕ × Source)) (s : Source) → AreNumbered es → AreNumbered (es ++ (s.number, s) ∷ [])
numbered_push es s h =
    keys_push es s.number s ∙ ap (λ ks. ks ++ s.number ∷ []) h ∙ sym (numbers_push (values_of es) s)
    ∙ ap index_numbers (sym (values_push es s.number s))

-- Entries with one more source at the end.
pub record IsPushed (es new : List (ℕ × Source)) (s : Source) : Type 0 where
  pub numbered : AreNumbered new
  pub values_are : values_of new ≡ values_of es ++ s ∷ []

pub pushed : (es new : List (ℕ × Source)) (s : Source) → AreNumbered es → new ≡ es ++ (s.number, s) ∷ []
    → IsPushed es new s
pushed es new s h e = record {
  numbered = rw e (numbered_push es s h);
  values_are = ap values_of e ∙ values_push es s.number s;
}

-- A number that no source has isn't a key.
pub absent :
    (es : List (ℕ × Source)) (n : ℕ) → AreNumbered es → list_any (λ s. s.number == n) (values_of es) ≡ false
    → lookup (λ k. nat_eq n k) es ≡ None
absent es n h free = none _ (ap is_some (found es n h) ∙ any_of_number (values_of es) n ∙ free) where
  none : (x : Option Source) → is_some x ≡ false → x ≡ None
  none None h = refl
  none (Some s) h = absurd (let no : true ≡ false = h in cc)

-- Of sources with distinct numbers, the next one's number is new.
pub next_free :
    (ss : List Source) (i : ℕ) (s : Source) → AreDistinct (index_numbers ss) → i < length ss → get_or ss i s ≡ s
    → list_any (λ other. other.number == s.number) (take i ss) ≡ false
next_free ss i s distinct there is =
    let cut : take i ss ++ s ∷ drop (i + 1) ss ≡ ss =
    ap (λ behind. take i ss ++ behind) (sym (drop_more ss i s there ∙ ap (λ x. x ∷ drop (i + 1) ss) is))
    ∙ take-append-drop i ss in
    not_taken (λ source. source.number) (take i ss) s (drop (i + 1) ss)
    (subst (λ xs. AreDistinct (index_numbers xs)) (sym cut) distinct)
