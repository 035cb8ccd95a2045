-- The value of a result is unique.
use Rattle.std.proofs.Common.{◌≡◌, ◌∙◌, Result, Ok, sym}

pub one_value : {A E : Type 0} {a b : A} {result : Result A E} → result ≡ Ok a → result ≡ Ok b → a ≡ b
one_value one other = let both = sym one ∙ other in cc
