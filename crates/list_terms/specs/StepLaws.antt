-- Inversions of chained steps that succeed.
use Rattle.std.specs.Prelude.{◌≡◌, Bool, true, false, Option, None, Some, Result, Ok, Err, ok_or, if◌then◌else◌, refl}
use Rattle.std.proofs.Common.{ap}
use Rattle.list_terms.specs.Steps.{◌>>=◌, err_map, ok_map}

-- A chain that succeeds: its first step yields a value, and so do the others.
pub record IsChain {A B E : Type 0} (first : Result A E) (next : A → Result B E) (last : B) : Type 0 where
  pub value : A
  pub is : first ≡ Ok value
  pub others : next value ≡ Ok last

pub chain :
    {A B E : Type 0} (first : Result A E) (next : A → Result B E) (last : B) → (first >>= next) ≡ Ok last
    → IsChain first next last
chain (Ok x) next last e = record { value = x; is = refl; others = e }
chain (Err fault) next last e = absurd (cc)

pub ok_same : {A E : Type 0} (x y : A) → ◌≡◌ {A = Result A E} (Ok x) (Ok y) → x ≡ y
ok_same x y e = cc

pub err_map_ok : {A D E : Type 0} (f : D → E) (r : Result A D) (x : A) → err_map f r ≡ Ok x → r ≡ Ok x
err_map_ok f (Ok y) x e = let same : y ≡ x = cc in ap Ok same
err_map_ok f (Err fault) x e = absurd (cc)

pub record IsImage {A B E : Type 0} (f : A → B) (r : Result A E) (y : B) : Type 0 where
  pub value : A
  pub is : r ≡ Ok value
  pub same : f value ≡ y

pub ok_map_ok : {A B E : Type 0} (f : A → B) (r : Result A E) (y : B) → ok_map f r ≡ Ok y → IsImage f r y
ok_map_ok f (Ok x) y e = record { value = x; is = refl; same = cc }
ok_map_ok f (Err fault) y e = absurd (cc)

pub ok_or_some : {A E : Type 0} (found : Option A) (fault : E) (x : A) → ok_or found fault ≡ Ok x → found ≡ Some x
ok_or_some None fault x e = absurd (cc)
ok_or_some (Some y) fault x e = let same : y ≡ x = cc in ap Some same

-- If a guarded value is returned, the test holds.
pub if_ok :
    {X E : Type 0} (test : Bool) (x : X) (fault : E) (y : X) → (if test then Ok x else Err fault) ≡ Ok y
    → (test ≡ true) × (x ≡ y)
if_ok true x fault y e = (refl, cc)
if_ok false x fault y e = absurd (cc)

-- If a value is returned despite a guard, the guard doesn't hold.
pub unless_ok :
    {X E : Type 0} (test : Bool) (fault : E) (r : Result X E) (y : X) → (if test then Err fault else r) ≡ Ok y
    → (test ≡ false) × (r ≡ Ok y)
unless_ok true fault r y e = absurd (cc)
unless_ok false fault r y e = (refl, e)
