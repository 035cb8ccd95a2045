-- Laws of the home index of a file.
use Rattle.std.proofs.Common.{◌≡◌, ◌≢◌, ◌∙◌, ℕ, zero, suc, ◌+◌, ◌-◌, ◌<◌, ◌≤◌, Bool, true, false, cond, nat_eq, nat_le, List, [], ◌∷◌, ◌++◌, length, min, Option, None, Some, refl, sym, ap, subst, arith, unwrap_or, add-zero, eqb-true, eq-eqb, option_map, IfSome, le_of_eq, zero-add}
use Rattle.std.specs.List.{slice_get, position_or_len}
use Rattle.std.proofs.lemmas.List.Folds.{find_at}
use Rattle.std.proofs.lemmas.Bool.Decides.{nat_tests}
use Rattle.std.proofs.lemmas.Option.{get_or_from_slice_get, slice_get_within}
use Rattle.sampletime.specs.TimeCode.{day}
use Rattle.sound_terms.specs.declared.BoundIndex.{BoundIndex}
use Rattle.sound_terms.specs.declared.piece.Home.{Home}
use Rattle.sound_terms.specs.Mix.{index_of}
use Rattle.sound_terms.specs.Homes.{AreHomes, addressable_by}
use Rattle.list_terms.specs.Binding.{Binding, OpenedFile}
use Rattle.list_terms.specs.BoundHomes.{IsBinding, IsBoundTo, earlier_home, has_index, home_at, home_from, homes_from, homes_of, no_home}
use Rattle.sourceindex.specs.Homes.{least_so_far}

-- The minimum of three homes, from either side.
of_three : (first second third : Home)
    → earlier_home first (Some (least_so_far (Some second) third))
    ≡ least_so_far (Some (earlier_home first (Some second))) third
of_three first second third =
    by_tests (nat_le second.base third.base) refl (nat_le first.base second.base) refl (nat_le first.base third.base)
    refl where
      by_tests : (b : Bool) → nat_le second.base third.base ≡ b → (c : Bool) → nat_le first.base second.base ≡ c
          → (d : Bool) → nat_le first.base third.base ≡ d
          → earlier_home first (Some (least_so_far (Some second) third))
          ≡ least_so_far (Some (earlier_home first (Some second))) third
      by_tests true e true f true g = rw (e, f, g) refl
      by_tests true e true f false g = absurd (grind (arith, nat_tests, e, f, g))
      by_tests true e false f d g = rw (e, f, e) refl
      by_tests false e true f d g = rw (e, f) refl
      by_tests false e false f true g = absurd (grind (arith, nat_tests, e, f, g))
      by_tests false e false f false g = rw (e, f, e, g) refl

-- One more home after a home and those that follow it.
one_behind : (b c : Bool) (home later : Home) (rest with : Option Home)
    → with ≡ cond c (Some (least_so_far rest later)) rest
    → cond b (Some (earlier_home home with)) with
    ≡ cond c (Some (least_so_far (cond b (Some (earlier_home home rest)) rest) later))
    (cond b (Some (earlier_home home rest)) rest)
one_behind true true home later None with e = rw e refl
one_behind true true home later (Some second) with e = rw e (ap Some (of_three home second later))
one_behind true false home later rest with e = rw e refl
one_behind false c home later rest with e = e

-- One more index.
pub home_from-push : (place : ℕ) (indexes : List BoundIndex) (index : BoundIndex) (file : ℕ)
    → home_from place (indexes ++ index ∷ []) file
    ≡ cond (nat_eq index.file file) (Some (least_so_far (home_from place indexes file)
    (home_at (place + length indexes) index))) (home_from place indexes file)
home_from-push place [] index file = rw (add-zero place) refl
home_from-push place (first ∷ indexes) index file =
    let behind : place + 1 + length indexes ≡ place + length (first ∷ indexes) = omega arith in
    one_behind (nat_eq first.file file) (nat_eq index.file file) (home_at place first)
    (home_at (place + length (first ∷ indexes)) index)
    (home_from (place + 1) indexes file) (home_from (place + 1) (indexes ++ index ∷ []) file)
    (home_from-push (place + 1) indexes index file
    ∙ ap (λ at. cond (nat_eq index.file file) (Some
    (least_so_far (home_from (place + 1) indexes file) (home_at at index))) (home_from (place + 1) indexes file))
    behind)

-- The index that is the home: no index of the file has a smaller base.
pub record IsHome (place : ℕ) (indexes : List BoundIndex) (file : ℕ) (home : Home) : Type 0 where
  pub at : ℕ
  pub index : BoundIndex
  pub there : slice_get indexes at ≡ Some index
  pub of_file : index.file ≡ file
  pub told : home ≡ home_at (place + at) index
  pub least : (i : ℕ) (other : BoundIndex) → slice_get indexes i ≡ Some other → other.file ≡ file
      → home.base ≤ other.base

-- A file without a home has no index.
without_home : (place : ℕ) (indexes : List BoundIndex) (file : ℕ) → home_from place indexes file ≡ None
    → (i : ℕ) (index : BoundIndex) → slice_get indexes i ≡ Some index → index.file ≢ file
without_home place [] file none i index there = cc
without_home place (first ∷ indexes) file none i index there =
    by_first (nat_eq first.file file) refl (λ n behind k at. without_home (place + 1) indexes file behind k index at)
    i there where
      by_first : (b : Bool) → nat_eq first.file file ≡ b
          → ((n : Unit {0}) → home_from (place + 1) indexes file ≡ None → (k : ℕ) → slice_get indexes k ≡ Some index
          → index.file ≢ file)
          → (i : ℕ) → slice_get (first ∷ indexes) i ≡ Some index → index.file ≢ file
      by_first true e later i there =
          let h : Some (earlier_home (home_at place first) (home_from (place + 1) indexes file)) ≡ None =
          sym (rw e refl) ∙ none in absurd (cc)
      by_first false e later zero there = λ same. let one : first ≡ index = cc in
          let h : nat_eq first.file file ≡ true = eq-eqb first.file file (ap (λ (x : BoundIndex). x.file) one ∙ same) in
          absurd (cc)
      by_first false e later (suc i) there = later tt (sym (rw e refl) ∙ none) i there

-- A later index is the home; its base isn't greater than the first index's, if both have the same file.
home_behind : (place : ℕ) (first : BoundIndex) (indexes : List BoundIndex) (file : ℕ) (home : Home)
    → (first.file ≡ file → home.base ≤ first.base)
    → IsHome (place + 1) indexes file home → IsHome place (first ∷ indexes) file home
home_behind place first indexes file home first_above is = record {
  at = suc is.at;
  index = is.index;
  there = is.there;
  of_file = is.of_file;
  told = is.told ∙ ap (λ n. home_at n is.index) (omega arith);
  least = λ i index there of_file. by_place i index there of_file;
} where
  by_place : (i : ℕ) (index : BoundIndex) → slice_get (first ∷ indexes) i ≡ Some index → index.file ≡ file
      → home.base ≤ index.base
  by_place zero index there of_file =
      let one : first ≡ index = cc in
      subst (λ (x : BoundIndex). home.base ≤ x.base) one (first_above (ap (λ (x : BoundIndex). x.file) one ∙ of_file))
  by_place (suc i) index there of_file = is.least i index there of_file

home_later : (place : ℕ) (first : BoundIndex) (indexes : List BoundIndex) (file : ℕ) (home : Home)
    → nat_eq first.file file ≡ false
    → IsHome (place + 1) indexes file home → IsHome place (first ∷ indexes) file home
home_later place first indexes file home other =
    home_behind place first indexes file home
    (λ same. let h : nat_eq first.file file ≡ true = eq-eqb first.file file same in absurd (cc))

-- The first index is the home.
home_first : (place : ℕ) (first : BoundIndex) (indexes : List BoundIndex) (file : ℕ) → first.file ≡ file
    → ((i : ℕ) (index : BoundIndex) → slice_get indexes i ≡ Some index → index.file ≡ file → first.base ≤ index.base)
    → IsHome place (first ∷ indexes) file (home_at place first)
home_first place first indexes file mine least = record {
  at = 0;
  index = first;
  there = refl;
  of_file = mine;
  told = ap (λ n. home_at n first) (sym (add-zero place));
  least = by_place;
} where
  by_place : (i : ℕ) (index : BoundIndex) → slice_get (first ∷ indexes) i ≡ Some index → index.file ≡ file
      → first.base ≤ index.base
  by_place zero index there of_file = let one : first ≡ index = cc in le_of_eq (ap (λ (x : BoundIndex). x.base) one)
  by_place (suc i) index there of_file = least i index there of_file

-- A later index is the home, with a smaller base than the first.
home_second : (place : ℕ) (first : BoundIndex) (indexes : List BoundIndex) (file : ℕ) (home : Home)
    → nat_le first.base home.base ≡ false
    → IsHome (place + 1) indexes file home → IsHome place (first ∷ indexes) file home
home_second place first indexes file home less =
    home_behind place first indexes file home (λ same. grind (arith, nat_tests, less))

pub home_is : (place : ℕ) (indexes : List BoundIndex) (file : ℕ) (home : Home)
    → home_from place indexes file ≡ Some home → IsHome place indexes file home
home_is place [] file home is = cc
home_is place (first ∷ indexes) file home is =
    by_first (λ later found. home_is (place + 1) indexes file later found) (nat_eq first.file file) refl
    (home_from (place + 1) indexes file) refl where
      by_base : (b : Bool) (later : Home) → nat_le first.base later.base ≡ b → nat_eq first.file file ≡ true
          → IsHome (place + 1) indexes file later
          → home ≡ cond b (home_at place first) later → IsHome place (first ∷ indexes) file home
      by_base true later e mine behind same =
          subst (IsHome place (first ∷ indexes) file) (sym same)
          (home_first place first indexes file (eqb-true first.file file mine)
          (λ i index there of_file. let most = behind.least i index there of_file in grind (arith, nat_tests, e, most)))
      by_base false later e mine behind same =
          subst (IsHome place (first ∷ indexes) file) (sym same) (home_second place first indexes file later e behind)

      by_first : ((later : Home) → home_from (place + 1) indexes file ≡ Some later
          → IsHome (place + 1) indexes file later)
          → (b : Bool) → nat_eq first.file file ≡ b → (rest : Option Home) → home_from (place + 1) indexes file ≡ rest
          → IsHome place (first ∷ indexes) file home
      by_first rest_is true e None none =
          let h : Some (home_at place first) ≡ Some home = sym (rw (e, none) refl) ∙ is in
          let same : home_at place first ≡ home = cc in
          subst (IsHome place (first ∷ indexes) file) same
          (home_first place first indexes file (eqb-true first.file file e)
          (λ i index there of_file. absurd (without_home (place + 1) indexes file none i index there of_file)))
      by_first rest_is true e (Some later) found =
          let h : Some (earlier_home (home_at place first) (Some later)) ≡ Some home = sym (rw (e, found) refl) ∙ is in
          by_base (nat_le first.base later.base) later refl e (rest_is later found) (cc)
      by_first rest_is false e rest found =
          home_later place first indexes file home e (rest_is home (sym (rw e refl) ∙ is))

-- A file that has an index has a home.
pub has_home : (place : ℕ) (indexes : List BoundIndex) (file : ℕ) → has_index indexes file ≡ true
    → (home : Home) × (home_from place indexes file ≡ Some home)
has_home place [] file has = cc
has_home place (first ∷ indexes) file has =
    by_first (λ behind. has_home (place + 1) indexes file behind) (nat_eq first.file file) refl where
      by_first : (has_index indexes file ≡ true → (home : Home) × (home_from (place + 1) indexes file ≡ Some home))
          → (b : Bool) → nat_eq first.file file ≡ b
          → (home : Home) × (home_from place (first ∷ indexes) file ≡ Some home)
      by_first later true e = (earlier_home (home_at place first) (home_from (place + 1) indexes file), rw e refl)
      by_first later false e = let rest = later (sym (rw e refl) ∙ has) in (
        rest.0,
        ap (λ own. cond own (Some (earlier_home (home_at place first) (home_from (place + 1) indexes file)))
            (home_from (place + 1) indexes file)) e ∙ rest.1,
      )

-- The home of a file in the table.
pub home_in_table : (indexes : List BoundIndex) (from : ℕ) (files : List OpenedFile) (i : ℕ) → i < length files
    → slice_get (homes_from indexes from files) i ≡ Some (unwrap_or (home_from 0 indexes (from + i)) no_home)
home_in_table indexes from [] i below = absurd (omega (arith, below))
home_in_table indexes from (file ∷ files) zero below = rw (add-zero from) refl
home_in_table indexes from (file ∷ files) (suc i) below =
    home_in_table indexes (from + 1) files i (omega (arith, below))
    ∙ ap (λ n. Some (unwrap_or (home_from 0 indexes n) no_home)) (omega arith)

pub length-homes_from : (indexes : List BoundIndex) (from : ℕ) (files : List OpenedFile)
    → length (homes_from indexes from files) ≡ length files
length-homes_from indexes from [] = refl
length-homes_from indexes from (file ∷ files) = ap suc (length-homes_from indexes (from + 1) files)

-- The home of a file of a binding.
pub home_of_file : (binding : Binding) → IsBinding binding → (file : ℕ) → file < length binding.files
    → (home : Home) × (slice_get (homes_of binding) file ≡ Some home) × IsHome 0 binding.indexes file home
home_of_file binding is file below =
    let has = has_home 0 binding.indexes file (is.used file below) in (
      has.0,
      home_in_table binding.indexes 0 binding.files file below
          ∙ ap (λ n. Some (unwrap_or (home_from 0 binding.indexes n) no_home)) (zero-add file)
          ∙ ap (λ h. Some (unwrap_or h no_home)) has.1,
      home_is 0 binding.indexes file has.0 has.1,
    )

-- The index at a position is bound to its file.
pub bound_at : (binding : Binding) → IsBinding binding → (at : ℕ) (index : BoundIndex)
    → slice_get binding.indexes at ≡ Some index → IsBoundTo binding.files index
bound_at binding is at index there =
    subst (IsBoundTo binding.files) (get_or_from_slice_get binding.indexes at index index there)
    (is.bound at index (slice_get_within binding.indexes at index there))

-- A home in the table belongs to one of the files.
home_within : (binding : Binding) (i : ℕ) (home : Home) → slice_get (homes_of binding) i ≡ Some home
    → i < length binding.files
home_within binding i home there =
    subst (λ n. i < n) (length-homes_from binding.indexes 0 binding.files)
    (slice_get_within (homes_of binding) i home there)

home_told : (binding : Binding) → IsBinding binding → (i : ℕ) (home : Home) → slice_get (homes_of binding) i ≡ Some home
    → IsHome 0 binding.indexes i home
home_told binding is i home there =
    let own = home_of_file binding is i (home_within binding i home there) in
    let same : own.0 ≡ home = let e = sym own.1 ∙ there in cc in
    subst (IsHome 0 binding.indexes i) same own.2

pub are_homes : (binding : Binding) → IsBinding binding → AreHomes (homes_of binding)
are_homes binding is = record {
  apart = λ i j a b other at_i at_j same.
      let first = home_told binding is i a at_i in
      let second = home_told binding is j b at_j in
      let places : 0 + first.at ≡ 0 + second.at =
      sym (ap (λ (h : Home). h.position) first.told) ∙ same ∙ ap (λ (h : Home). h.position) second.told in
      let place : first.at ≡ second.at = sym (zero-add first.at) ∙ places ∙ zero-add second.at in
      let one : first.index ≡ second.index = let e =
      sym first.there ∙ ap (λ n. slice_get binding.indexes n) place ∙ second.there in cc in
      other (sym first.of_file ∙ ap (λ (x : BoundIndex). x.file) one ∙ second.of_file);
  in_day = λ i a at_i some.
      let own = home_told binding is i a at_i in
      let bound = bound_at binding is own.at own.index own.there in
      let base : a.base ≡ own.index.base = ap (λ (h : Home). h.base) own.told in
      let count : a.addressable ≡ own.index.addressable = ap (λ (h : Home). h.addressable) own.told in
      ends_in_day a.base a.addressable bound.file.facts.frames some
      (count ∙ bound.addressable ∙ ap (λ b. min bound.file.facts.frames (day - b)) (sym base));
} where
  ends_in_day : (base addressable frames : ℕ) → 0 < addressable → addressable ≡ min frames (day - base)
      → base + addressable ≤ day
  ends_in_day base addressable frames some is = omega (arith, some, is)

-- A file's home reaches everything that an index of the file reaches.
pub home_holds : (binding : Binding) → IsBinding binding → (at : ℕ) (index : BoundIndex)
    → slice_get binding.indexes at ≡ Some index
    → index.addressable ≤ addressable_by (homes_of binding) index.file
home_holds binding is at index there =
    let bound = bound_at binding is at index there in
    let own = home_of_file binding is index.file (slice_get_within binding.files index.file bound.file bound.there) in
    let home = own.2 in
    let other = bound_at binding is home.at home.index home.there in
    let same : other.file ≡ bound.file = let e =
    sym other.there ∙ ap (slice_get binding.files) home.of_file ∙ bound.there in cc in
    let read : addressable_by (homes_of binding) index.file ≡ own.0.addressable =
    ap (λ h. unwrap_or (option_map (λ (x : Home). x.addressable) h) 0) own.1 in
    let base : own.0.base ≡ home.index.base = ap (λ (h : Home). h.base) home.told in
    let count : own.0.addressable ≡ home.index.addressable = ap (λ (h : Home). h.addressable) home.told in
    subst (λ n. index.addressable ≤ n) (sym read)
    (no_fewer index.addressable own.0.addressable bound.file.facts.frames own.0.base index.base
    (home.least at index there refl) bound.addressable
    (count ∙ other.addressable ∙ rw (same, ← base) refl)) where
      no_fewer : (a b frames home base : ℕ) → home ≤ base → a ≡ min frames (day - base) → b ≡ min frames (day - home)
          → a ≤ b
      no_fewer a b frames home base less is_a is_b = omega (arith, less, is_a, is_b)

-- The index with a number, if there is one.
found_at : (binding : Binding) (number : ℕ) (index : BoundIndex) → index_of binding.indexes number ≡ Some index
    → slice_get binding.indexes (position_or_len (λ (i : BoundIndex). nat_eq i.number number) binding.indexes)
    ≡ Some index
found_at binding number index found = sym (find_at (λ (i : BoundIndex). nat_eq i.number number) binding.indexes) ∙ found

pub found_bound : (binding : Binding) → IsBinding binding → (number : ℕ) (found : Option BoundIndex)
    → found ≡ index_of binding.indexes number
    → IfSome found (IsBoundTo binding.files)
found_bound binding is number None same = tt
found_bound binding is number (Some index) same = bound_at binding is _ index (found_at binding number index (sym same))

pub found_at_home : (binding : Binding) → IsBinding binding → (number : ℕ) (found : Option BoundIndex)
    → found ≡ index_of binding.indexes number
    → IfSome found (λ index. index.addressable ≤ addressable_by (homes_of binding) index.file)
found_at_home binding is number None same = tt
found_at_home binding is number (Some index) same =
    home_holds binding is _ index (found_at binding number index (sym same))
