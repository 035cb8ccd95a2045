-- The URL of a medium can be quoted in a line.
use Rattle.std.proofs.Common.{◌≡◌, ℕ, zero, suc, ◌+◌, ◌-◌, ◌%◌, ◌^◌, ◌<◌, true, List, [], ◌∷◌, ◌++◌, length, replicate, refl, arith}
use Rattle.std.specs.Prelude.{codes, decimal}
use Rattle.std.specs.List.{list_all}
use Rattle.std.proofs.lemmas.Bool.{and_from}
use Rattle.std.proofs.lemmas.Bool.Decides.{nat_tests}
use Rattle.std.proofs.lemmas.Fmt.{decimal_by_steps}
use Rattle.std.proofs.lemmas.List.Folds.{list_all-append}
use Rattle.list_terms.specs.WholeProject.{is_quotable}
use Rattle.list_terms.specs.Renewed.{media_name}

both_parts : (a b : List ℕ) → list_all is_quotable a ≡ true → list_all is_quotable b ≡ true
    → list_all is_quotable (a ++ b) ≡ true
both_parts a b front back =
    rw (list_all-append is_quotable a b) (and_from (list_all is_quotable a) (list_all is_quotable b) front back)

digit : (d : ℕ) → d < 10 → list_all is_quotable ((48 + d) ∷ []) ≡ true
digit d below = grind (arith, nat_tests)

digits : (n : ℕ) → n < 2 ^ 64 → list_all is_quotable (decimal n) ≡ true
digits n below =
    decimal_by_steps (λ n ds. list_all is_quotable ds ≡ true) digit
    (λ n ds large front. both_parts ds ((48 + n % 10) ∷ []) front (digit (n % 10) (omega arith))) n below

zeros : (n : ℕ) → list_all is_quotable (replicate n 48) ≡ true
zeros zero = refl
zeros (suc n) = zeros n

name_quotable : (n : ℕ) → n < 2 ^ 64 → list_all is_quotable (media_name n) ≡ true
unfolding media_name
name_quotable n below =
    both_parts (codes "M") (replicate (5 - length (decimal n)) 48 ++ (decimal n ++ codes ".wav")) refl
    (both_parts (replicate (5 - length (decimal n)) 48) (decimal n ++ codes ".wav") (zeros (5 - length (decimal n)))
    (both_parts (decimal n) (codes ".wav") (digits n below) refl))

pub url_quotable : (n : ℕ) → n < 2 ^ 64 → list_all is_quotable (codes "URL:file://localhost/" ++ media_name n) ≡ true
url_quotable n below = both_parts (codes "URL:file://localhost/") (media_name n) refl (name_quotable n below)
