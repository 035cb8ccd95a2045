-- The table of homes under construction.
use Rattle.std.proofs.Common.{◌≡◌, ◌∙◌, ℕ, suc, ◌+◌, ◌<◌, ◌≤◌, Bool, true, false, nat_eq, List, [], ◌∷◌, ◌++◌, length, map, take, take-suc, add-one, length-take-le, get_or, set, Option, None, Some, refl, sym, ap, arith, unwrap_or, add-zero, zero-add, eqb-true, get_or-set_same, get_or-set_other, length-set}
use Rattle.std.proofs.lemmas.Bool.Decides.{nat_tests}
use Rattle.sound_terms.specs.declared.BoundIndex.{BoundIndex}
use Rattle.sound_terms.specs.declared.piece.Home.{Home}
use Rattle.list_terms.specs.Binding.{OpenedFile}
use Rattle.list_terms.specs.BoundHomes.{home_at, home_from, homes_from, no_home}
use Rattle.sourceindex.specs.Homes.{AreLeast, least_so_far}
use Rattle.sourceindex.proofs.HomeLaws.{home_from-push}

-- An index of the list, and those before it.
abbrev pub index_in : List BoundIndex → ℕ → BoundIndex
index_in indexes i = get_or indexes i (record { number = 0; file = 0; base = 0; addressable = 0 })

pub one_index : (indexes : List BoundIndex) (i : ℕ) → i < length indexes
    → (length (take i indexes) ≡ i) × (take (i + 1) indexes ≡ take i indexes ++ index_in indexes i ∷ [])
one_index indexes i below =
    (length-take-le i indexes (omega arith), ap (λ n. take n indexes) (add-one i) ∙ take-suc indexes i _ below)

-- The home of a file doesn't change with an index of another file.
pub other_file : (before : List BoundIndex) (index : BoundIndex) (file : ℕ) → nat_eq index.file file ≡ false
    → home_from 0 (before ++ index ∷ []) file ≡ home_from 0 before file
other_file before index file other = home_from-push 0 before index file ∙ rw other refl

pub own_file : (before : List BoundIndex) (index : BoundIndex) (file : ℕ) → nat_eq index.file file ≡ true
    → home_from 0 (before ++ index ∷ []) file
    ≡ Some (least_so_far (home_from 0 before file) (home_at (length before) index))
own_file before index file own = home_from-push 0 before index file ∙ rw (own, zero-add (length before)) refl

-- One more index.
pub least_put : (homes : List (Option Home)) (before : List BoundIndex) (index : BoundIndex) → AreLeast homes before
    → index.file < length homes
    → AreLeast (set homes index.file (Some (least_so_far (get_or homes index.file None)
    (home_at (length before) index)))) (before ++ index ∷ [])
least_put homes before index are inside =
    λ file below. by_file file (omega (arith, below, length-set homes index.file new)) (nat_eq index.file file)
    refl where
      new : Option Home
      new = Some (least_so_far (get_or homes index.file None) (home_at (length before) index))

      by_file : (file : ℕ) → file < length homes → (b : Bool) → nat_eq index.file file ≡ b
          → get_or (set homes index.file (Some (least_so_far (get_or homes index.file None)
          (home_at (length before) index)))) file None ≡ home_from 0 (before ++ index ∷ []) file
      by_file file below true e =
          let same : index.file ≡ file = eqb-true index.file file e in
          ap (λ n. get_or (set homes index.file (Some
          (least_so_far (get_or homes index.file None) (home_at (length before) index)))) n None) (sym same)
          ∙ get_or-set_same homes index.file (Some
          (least_so_far (get_or homes index.file None) (home_at (length before) index))) None inside
          ∙ ap (λ h. Some (least_so_far h (home_at (length before) index))) (are index.file inside)
          ∙ ap (λ n. Some (least_so_far (home_from 0 before n) (home_at (length before) index))) same
          ∙ sym (own_file before index file e)
      by_file file below false e =
          get_or-set_other homes index.file file _ None (grind (arith, nat_tests, e))
          ∙ are file below ∙ sym (other_file before index file e)

pub least_skipped : (homes : List (Option Home)) (before : List BoundIndex) (index : BoundIndex) → AreLeast homes before
    → length homes ≤ index.file
    → AreLeast homes (before ++ index ∷ [])
least_skipped homes before index are outside = λ file below.
    are file below ∙ sym (other_file before index file (grind (arith, nat_tests, below, outside)))

-- The whole table.
pub table_from : (indexes : List BoundIndex) (from : ℕ) (least : List (Option Home)) (files : List OpenedFile)
    → length files ≡ length least
    → ((i : ℕ) → i < length least → get_or least i None ≡ home_from 0 indexes (from + i))
    → map (λ h. unwrap_or h no_home) least ≡ homes_from indexes from files
table_from indexes from [] [] same are = refl
table_from indexes from [] (file ∷ files) same are = absurd (omega (arith, same))
table_from indexes from (home ∷ least) [] same are = absurd (omega (arith, same))
table_from indexes from (home ∷ least) (file ∷ files) same are =
    let first : home ≡ home_from 0 indexes from = are 0 (omega arith) ∙ ap (home_from 0 indexes) (add-zero from) in
    rw first (ap (λ rest. unwrap_or (home_from 0 indexes from) no_home ∷ rest)
    (table_from indexes (from + 1) least files (omega (arith, same))
    (λ i below. are (suc i) (omega (arith, below)) ∙ ap (home_from 0 indexes) (omega arith))))
