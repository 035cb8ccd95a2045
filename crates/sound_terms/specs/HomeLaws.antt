-- Laws of home indexes: no two files share one, and kept sample frames are addressable and within the day.
use Rattle.std.proofs.Common.{◌≡◌, ℕ, ◌+◌, ◌<◌, ◌≤◌, Bool, true, false, List, None, Some, Option, refl, arith}
use Rattle.std.specs.Prelude.{◌==◌, nat_lt}
use Rattle.std.specs.List.{slice_get}
use Rattle.std.proofs.lemmas.Bool.Decides.{nat_tests}
use Rattle.sampletime.specs.TimeCode.{day}
use Rattle.sound_terms.specs.declared.piece.Home.{Home}
use Rattle.sound_terms.specs.declared.piece.Piece.{Piece}
use Rattle.sound_terms.specs.Homes.{AreHomes, addressable_by, base_by, kept_of, place_by}

-- a file with an addressable sample frame has a home
home_of : (homes : List Home) (file frame : ℕ) → frame < addressable_by homes file
    → (home : Home) × (slice_get homes file ≡ Some home)
home_of homes file frame below = by_option (slice_get homes file) refl below where
  by_option : (o : Option Home) → slice_get homes file ≡ o → frame < addressable_by homes file
      → (home : Home) × (slice_get homes file ≡ Some home)
  by_option None e below = let nothing : frame < 0 = rw e at below in absurd (omega (arith, nothing))
  by_option (Some home) e below = (home, e)

-- two files with addressable sample frames whose home indexes have the same position are the same file
pub same_file : (homes : List Home) → AreHomes homes → (i j m n : ℕ) → m < addressable_by homes i
    → n < addressable_by homes j
    → place_by homes i ≡ place_by homes j → i ≡ j
same_file homes are i j m n here there same = by_test (i == j) refl where
  by_test : (one : Bool) → (i == j) ≡ one → i ≡ j
  by_test true e = grind (arith, nat_tests)
  by_test false e =
      let a = home_of homes i m here in
      let b = home_of homes j n there in
      let places : a.0.position ≡ b.0.position = rw (a.1, b.1) at same in
      absurd (are.apart i j a.0 b.0 (λ (one : i ≡ j). grind (arith, nat_tests)) a.1 b.1 places)

-- the addressable sample frames of a file end within the day
pub addressable_in_day : (homes : List Home) → AreHomes homes → (file frame : ℕ) → frame < addressable_by homes file
    → base_by homes file + addressable_by homes file ≤ day
addressable_in_day homes are file frame below =
    let home = home_of homes file frame below in
    let some : frame < home.0.addressable = rw home.1 at below in
    rw home.1 (are.in_day file home.0 home.1 (omega (arith, some)))

-- a kept sample frame is addressable
pub kept_at_home : (groups : List (List Piece)) (homes : List Home) (handle file frame : ℕ)
    → kept_of groups homes handle file frame ≡ true → frame < addressable_by homes file
kept_at_home groups homes handle file frame is = by_test (nat_lt frame (addressable_by homes file)) refl is where
  by_test : (inside : Bool) → nat_lt frame (addressable_by homes file) ≡ inside
      → kept_of groups homes handle file frame ≡ true → frame < addressable_by homes file
  by_test true e is = grind (arith, nat_tests)
  by_test false e is = let none : false ≡ true = rw e at is in cc
