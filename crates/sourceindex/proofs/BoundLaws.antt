-- A binding stays a binding when one more index is added.
use Rattle.std.proofs.Math.Bool.{or-true}
use Rattle.std.proofs.Common.{◌≡◌, ◌∙◌, ℕ, zero, suc, ◌≤◌, Bool, true, false, ◌||◌, nat_eq, bytes_eq, List, [], ◌∷◌, ◌++◌, length, None, Some, refl, subst, arith, length-append, eq-eqb}
use Rattle.std.specs.List.{slice_get}
use Rattle.std.proofs.lemmas.List.Elements.{All-push}
use Rattle.std.proofs.lemmas.Bool.Decides.{nat_tests}
use Rattle.std.proofs.lemmas.Slice.Eq.{bytes_eq-Decides}
use Rattle.sound_terms.specs.declared.BoundIndex.{BoundIndex}
use Rattle.sound_terms.specs.Sounds.{SoundFacts}
use Rattle.list_terms.specs.Project.{Source}
use Rattle.list_terms.specs.Binding.{Binding, OpenedFile, addressable_from, base_of, file_named, with_index}
use Rattle.list_terms.specs.BoundHomes.{IsBinding, IsBoundTo, has_index}
use Rattle.sourceindex.proofs.Places.{position-push}

-- The index of a source over a file with these facts.
abbrev pub index_over : Source → SoundFacts → ℕ → BoundIndex
index_over source facts file = record {
  number = source.number;
  file = file;
  base = base_of source facts;
  addressable = addressable_from (base_of source facts) facts;
}

-- Lookup in a list with one more element.
get_append : {X : Type 0} (xs ys : List X) (i : ℕ) (x : X) → slice_get xs i ≡ Some x → slice_get (xs ++ ys) i ≡ Some x
get_append [] ys i x there = cc
get_append (y ∷ xs) ys zero x there = there
get_append (y ∷ xs) ys (suc i) x there = get_append xs ys i x there

pub get_last : {X : Type 0} (xs : List X) (x : X) → slice_get (xs ++ x ∷ []) (length xs) ≡ Some x
get_last [] x = refl
get_last (y ∷ xs) x = get_last xs x

-- An element of a list with one more element is an element of the list, or the new one.
by_push : {X : Type 0} (P : ℕ → X → Type 0) (xs : List X) (x : X) → ((i : ℕ) (y : X) → slice_get xs i ≡ Some y → P i y)
    → P (length xs) x
    → (i : ℕ) (y : X) → slice_get (xs ++ x ∷ []) i ≡ Some y → P i y
by_push P [] x before last zero y there = let same : x ≡ y = cc in subst (P 0) same last
by_push P [] x before last (suc i) y there = cc
by_push P (z ∷ xs) x before last zero y there = before 0 y there
by_push P (z ∷ xs) x before last (suc i) y there = by_push (λ n. P (suc n)) xs x (λ n. before (suc n)) last i y there

has_index-push : (indexes : List BoundIndex) (index : BoundIndex) (file : ℕ)
    → has_index (indexes ++ index ∷ []) file ≡ (has_index indexes file || nat_eq index.file file)
has_index-push [] index file = by_test (nat_eq index.file file) refl where
  by_test : (b : Bool) → nat_eq index.file file ≡ b
      → (nat_eq index.file file || false) ≡ (false || nat_eq index.file file)
  by_test true e = rw e refl
  by_test false e = rw e refl
has_index-push (first ∷ indexes) index file =
    by_test (has_index-push indexes index file) (nat_eq first.file file) refl where
      by_test : has_index (indexes ++ index ∷ []) file ≡ (has_index indexes file || nat_eq index.file file) → (b : Bool)
          → nat_eq first.file file ≡ b
          → (nat_eq first.file file || has_index (indexes ++ index ∷ []) file)
          ≡ ((nat_eq first.file file || has_index indexes file) || nat_eq index.file file)
      by_test later true e = rw e refl
      by_test later false e = rw e later

-- A file that had an index still has one.
still_has : (indexes : List BoundIndex) (index : BoundIndex) (file : ℕ) → has_index indexes file ≡ true
    → has_index (indexes ++ index ∷ []) file ≡ true
still_has indexes index file has = has_index-push indexes index file ∙ rw has refl

now_has : (indexes : List BoundIndex) (index : BoundIndex) (file : ℕ) → index.file ≡ file
    → has_index (indexes ++ index ∷ []) file ≡ true
now_has indexes index file same =
    has_index-push indexes index file ∙ rw (eq-eqb index.file file same) (or-true (has_index indexes file))

-- An index of a file that is already open.
pub known_index : (binding : Binding) (source : Source) (file : ℕ) (opened : OpenedFile) (told : Bool)
    → IsBinding binding
    → slice_get binding.files file ≡ Some opened
    → IsBinding (with_index binding source file opened.facts told binding.files)
known_index binding source file opened told is there =
    let index = index_over source opened.facts file in
    record {
      bound = All-push (IsBoundTo binding.files) binding.indexes index is.bound
          (record { file = opened; there = there; addressable = refl });
      named = is.named;
      used = λ n below. still_has binding.indexes index n (is.used n below);
    }

-- A bound index stays bound when more files are opened.
in_more_files : (files more : List OpenedFile) (index : BoundIndex) → IsBoundTo files index
    → IsBoundTo (files ++ more) index
in_more_files files more index is =
    record { file = is.file; there = get_append files more index.file is.file is.there; addressable = is.addressable }

-- The first file with a name stays the first.
named_still : (files : List OpenedFile) (file : OpenedFile) (name : List ℕ) (i : ℕ) → file_named name files ≡ Some i
    → file_named name (files ++ file ∷ []) ≡ Some i
named_still files file name i found =
    position-push (λ (f : OpenedFile). bytes_eq f.facts.name name) file files ∙ rw found refl

named_last : (files : List OpenedFile) (file : OpenedFile) → file_named file.facts.name files ≡ None
    → file_named file.facts.name (files ++ file ∷ []) ≡ Some (length files)
named_last files file none =
    position-push (λ (f : OpenedFile). bytes_eq f.facts.name file.facts.name) file files
    ∙ rw (none, (bytes_eq-Decides file.facts.name file.facts.name).1 refl) refl

-- An index of a file that is opened for it.
pub new_index : (binding : Binding) (source : Source) (path : List ℕ) (facts : SoundFacts) (told : Bool)
    → IsBinding binding
    → file_named facts.name binding.files ≡ None
    → IsBinding (with_index binding source (length binding.files) facts told
    (binding.files ++ record { path = path; facts = facts } ∷ []))
new_index binding source path facts told is none =
    let opened : OpenedFile = record { path = path; facts = facts } in
    let files = binding.files ++ opened ∷ [] in
    let index = index_over source facts (length binding.files) in
    record {
      bound = All-push (IsBoundTo files) binding.indexes index
          (λ k d below. in_more_files binding.files (opened ∷ []) _ (is.bound k d below))
          (record { file = opened; there = get_last binding.files opened; addressable = refl });
      named = by_push (λ i (f : OpenedFile). file_named f.facts.name files ≡ Some i) binding.files opened
          (λ i file there. named_still binding.files opened file.facts.name i (is.named i file there))
          (named_last binding.files opened none);
      used = λ n below. by_place n (omega (arith, below, length-append binding.files (opened ∷ [])))
          (nat_eq (length binding.files) n) refl;
    } where
      by_place : (n : ℕ) → n ≤ length binding.files → (b : Bool) → nat_eq (length binding.files) n ≡ b
          → has_index (binding.indexes ++ index_over source facts (length binding.files) ∷ []) n ≡ true
      by_place n most true e =
          has_index-push binding.indexes (index_over source facts (length binding.files)) n
          ∙ rw e (or-true (has_index binding.indexes n))
      by_place n most false e =
          still_has binding.indexes (index_over source facts (length binding.files)) n
          (is.used n (grind (arith, nat_tests, most, e)))
