-- Laws of compound Boolean tests and of options.
use Rattle.std.specs.Prelude.{◌≡◌, ◌&&◌, ◌||◌, Bool, true, false, Option, None, Some, IsSome, is_some, MatchBool, if◌then◌else◌, refl}
use Rattle.std.proofs.lemmas.Bool.{and_parts}

pub and_left : (a b : Bool) → (a && b) ≡ true → a ≡ true
and_left a b h = (and_parts a b h).0

pub and_right : (a b : Bool) → (a && b) ≡ true → b ≡ true
and_right a b h = (and_parts a b h).1

pub and_both : (a b : Bool) → a ≡ true → b ≡ true → (a && b) ≡ true
and_both a b h k = rw (h, k)

-- the first two of three tests can be exchanged
pub and_exchange : (a b c : Bool) → (a && (b && c)) ≡ (b && (a && c))
and_exchange true true c = refl
and_exchange true false c = refl
and_exchange false true c = refl
and_exchange false false c = refl

pub or_exchange : (a b c : Bool) → (a || (b || c)) ≡ (b || (a || c))
or_exchange true true c = refl
or_exchange true false c = refl
or_exchange false true c = refl
or_exchange false false c = refl

-- if the last of three tests fails, the else branch is taken
pub otherwise : {X : Type 0} (a b c : Bool) (x y : X) → c ≡ false → (if a && (b && c) then x else y) ≡ y
otherwise true true c x y fails = rw fails refl
otherwise true false c x y fails = refl
otherwise false b c x y fails = refl

-- a property that always holds also holds in the case of a failed test
pub unless : (b : Bool) (P : Type 0) → P → MatchBool b (Unit {0}) P
unless true P holds = tt
unless false P holds = holds

pub same_some : {X : Type 0} {a b : X} → Some a ≡ Some b → a ≡ b
same_some same = cc

pub not_some : {X : Type 0} (o : Option X) → is_some o ≡ false → o ≡ None
not_some None none = refl
not_some (Some x) none = cc

pub some_there : {X : Type 0} (o : Option X) → IsSome o → (x : X) × (o ≡ Some x)
some_there None there = cc
some_there (Some x) there = (x, refl)
