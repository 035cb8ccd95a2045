-- The consequences of a source's fault for the project.
use Rattle.std.proofs.Common.{◌≡◌, ◌∙◌, ◌⊎◌, ℕ, zero, suc, Bool, true, false, List, [], ◌∷◌, Option, None, Some, Result, Ok, Err, IsSome, MatchBool, inl, inr, refl, sym, ap, subst}
use Rattle.std.specs.Prelude.{string_bytes, take}
use Rattle.std.specs.declared.string.String.{String}
use Rattle.std.specs.Global.{Global}
use Rattle.std.specs.List.{list_all, slice_get}
use Rattle.work_terms.specs.Disk.{Files, HasRead, IsKept}
use Rattle.work_terms.specs.Refusals.{Refusal, is_excused}
use Rattle.list_terms.specs.Names.{Place, place_of_url}
use Rattle.list_terms.specs.Project.{ListProject, Source}
use Rattle.list_terms.specs.WholeProject.{is_number, is_source}
use Rattle.list_terms.specs.Binding.{Binding, is_used, nothing_bound}
use Rattle.list_terms.specs.Bound.{with_sources}
use Rattle.riff.specs.declared.fault.MediaFault.{MediaFault}
use Rattle.riff.specs.declared.fault.MediaFault.TheVariants as media
use Rattle.sourceindex.specs.declared.fault.BindFault.{BindFault}
use Rattle.sourceindex.specs.declared.fault.NamedFault.{NamedFault}
use Rattle.sourceindex.specs.declared.fault.SourceFault.{SourceFault}
use Rattle.sourceindex.specs.declared.fault.SourceFault.TheVariants.{SameName, Media}
use Rattle.sourceindex.specs.Fault.{at_index, name_of_source, refusal_of, refusal_of_source}
use Rattle.sourceindex.specs.Own.{ComesFirst, HoldsOfFile, IsNameOf, IsOfProject, IsSourceAt}
use Rattle.sourceindex.specs.Taken.{IsNamedAs}

all_at : {X : Type 0} (p : X → Bool) (xs : List X) (i : ℕ) (x : X) → list_all p xs ≡ true → slice_get xs i ≡ Some x
    → p x ≡ true
all_at p [] i x all there = cc
all_at p (y ∷ ys) i x all there = by_first (λ k. all_at p ys k x) (p y) refl i there where
  by_first : ((k : ℕ) → list_all p ys ≡ true → slice_get ys k ≡ Some x → p x ≡ true) → (b : Bool) → p y ≡ b → (i : ℕ)
      → slice_get (y ∷ ys) i ≡ Some x → p x ≡ true
  by_first later true e zero there = let same : y ≡ x = cc in ap p (sym same) ∙ e
  by_first later true e (suc i) there = later i (sym (rw e refl) ∙ all) there
  by_first later false e i there = let h : false ≡ true = sym (rw e refl) ∙ all in cc

-- A source of a whole project names a file.
names_file : (sources : List Source) (place : ℕ) (source : Source) → list_all is_source sources ≡ true
    → slice_get sources place ≡ Some source
    → IsSome (place_of_url source.url)
names_file sources place source whole there =
    by_place (place_of_url source.url) refl (is_number source.number) refl where
      is : is_source source ≡ true
      is = all_at is_source sources place source whole there

      by_place : (o : Option Place) → place_of_url source.url ≡ o → (b : Bool) → is_number source.number ≡ b
          → IsSome (place_of_url source.url)
      by_place (Some p) e b f = rw e refl
      by_place None e true f = let h : false ≡ true = sym (rw (f, e) refl) ∙ is in cc
      by_place None e false f = let h : false ≡ true = sym (rw f refl) ∙ is in cc

-- The source at a position of the project.
pub source_at : (project : ListProject) (sources : List Source) (place : ℕ) (source : Source)
    → sources ≡ project.sources → list_all is_source sources ≡ true → slice_get sources place ≡ Some source
    → IsSourceAt project place source.number
source_at project sources place source listed whole there = record {
  source = source;
  there = ap (λ l. slice_get l place) (sym listed) ∙ there;
  number_is = refl;
  file = names_file sources place source whole there;
}

-- The name of a file that isn't accepted.
named_of : (source : Source) (named : NamedFault) (fault : MediaFault) → named.fault ≡ Media fault
    → IsNamedAs source named → IsNameOf source named.name fault
named_of source named fault is = by_name named.name refl where
  by_name : (name : Option (String Global)) → named.name ≡ name → IsNamedAs source named
      → IsNameOf source named.name fault
  by_name (Some name) e told = let same : string_bytes name ≡ name_of_source source = rw e at told in rw e same
  by_name None e told =
      let memory : named.fault ≡ Media media.Memory = rw e at told in
      let h : Media fault ≡ Media media.Memory = sym is ∙ memory in
      let same : fault ≡ media.Memory = cc in
      rw e same

-- The blamed index belongs to the project.
pub own_index : (project : ListProject) (sources : List Source) (place : ℕ) (source : Source) (named : NamedFault)
    → sources ≡ project.sources → list_all is_source sources ≡ true → slice_get sources place ≡ Some source
    → IsNamedAs source named → (named.fault ≡ Media media.Memory) ⊎ (is_used project.events source.number ≡ true)
    → IsOfProject project (at_index source.number named)
unfolding source_at
own_index project sources place source named listed whole there name = by_fault named.fault refl where
  at : IsSourceAt project place source.number
  at = source_at project sources place source listed whole there

  by_fault : (fault : SourceFault) → named.fault ≡ fault
      → (named.fault ≡ Media media.Memory) ⊎ (is_used project.events source.number ≡ true)
      → IsOfProject project (at_index source.number named)
  by_fault SameName is (inl memory) = let h : SameName ≡ Media media.Memory = sym is ∙ memory in cc
  by_fault SameName is (inr used) = rw is (place, record { at = at; used = used })
  by_fault (Media fault) is (inl memory) =
      let h : Media fault ≡ Media media.Memory = sym is ∙ memory in
      let same : fault ≡ media.Memory = cc in
      rw is ((place, at, named_of source named fault is name), inr same)
  by_fault (Media fault) is (inr used) = rw is ((place, at, named_of source named fault is name), inl used)

-- No source before it is faulty.
pub first_index : (project : ListProject) (files : Files) (place : ℕ) (source : Source) (named : NamedFault)
    (binding : Binding) → IsSourceAt project place source.number
    → with_sources files project.events nothing_bound (take place project.sources) ≡ Ok binding
    → ComesFirst project files (at_index source.number named)
first_index project files place source named binding at bound = by_fault named.fault refl where
  by_fault : (fault : SourceFault) → named.fault ≡ fault → ComesFirst project files (at_index source.number named)
  by_fault SameName is = rw is tt
  by_fault (Media fault) is = rw is (place, at, (binding, bound))

-- The refusal of the project is the refusal of the source.
pub due_refusal : (source : Source) (named : NamedFault) (reading : Result Binding Refusal) → IsNamedAs source named
    → MatchBool (is_excused (refusal_of_source source named.fault).number) (Unit {0})
    (reading ≡ Err (refusal_of_source source named.fault))
    → MatchBool (is_excused (refusal_of (at_index source.number named)).number) (Unit {0})
    (reading ≡ Err (refusal_of (at_index source.number named)))
due_refusal source named reading name = by_fault named.fault refl named.name refl where
  by_fault : (fault : SourceFault) → named.fault ≡ fault → (n : Option (String Global)) → named.name ≡ n
      → MatchBool (is_excused (refusal_of_source source named.fault).number) (Unit {0})
      (reading ≡ Err (refusal_of_source source named.fault))
      → MatchBool (is_excused (refusal_of (at_index source.number named)).number) (Unit {0})
      (reading ≡ Err (refusal_of (at_index source.number named)))
  by_fault SameName is n e due = let here = rw is at due in rw is here
  by_fault (Media fault) is (Some n) e due =
      let same : string_bytes n ≡ name_of_source source = rw e at name in
      let here = rw is at due in
      rw (is, e, same) here
  by_fault (Media fault) is None e due =
      let memory : named.fault ≡ Media media.Memory = rw e at name in
      rw (memory) tt

-- Both refusals have the same number.
same_number : (source : Source) (named : NamedFault)
    → (refusal_of (at_index source.number named)).number ≡ (refusal_of_source source named.fault).number
same_number source named = by_fault named.fault refl where
  by_fault : (fault : SourceFault) → named.fault ≡ fault
      → (refusal_of (at_index source.number named)).number ≡ (refusal_of_source source named.fault).number
  by_fault SameName is = rw is refl
  by_fault (Media fault) is = rw is refl

-- Only device failures have number 22.
device_told : (source : Source) (fault : SourceFault) → (refusal_of_source source fault).number ≡ 22
    → fault ≡ Media media.Device
device_told source SameName told = cc
device_told source (Media media.NotFound) told = cc
device_told source (Media media.Device) told = refl
device_told source (Media media.NotWave) told = cc
device_told source (Media media.NoFormat) told = cc
device_told source (Media media.NoData) told = cc
device_told source (Media media.Truncated) told = cc
device_told source (Media media.BadFormat) told = cc
device_told source (Media media.BadDs64) told = cc
device_told source (Media media.WrongRate) told = cc
device_told source (Media media.Memory) told = cc

-- A device failure names its file.
device_place : (P : List ℕ → Type 0) (source : Source) (named : NamedFault) → named.fault ≡ Media media.Device
    → IsNamedAs source named → P (name_of_source source)
    → HoldsOfFile P (refusal_of (at_index source.number named)).location
device_place P source named is = by_name named.name refl where
  by_name : (name : Option (String Global)) → named.name ≡ name → IsNamedAs source named → P (name_of_source source)
      → HoldsOfFile P (refusal_of (at_index source.number named)).location
  by_name (Some name) e told failed =
      let same : string_bytes name ≡ name_of_source source = rw e at told in
      rw (is, e) (subst P (sym same) failed)
  by_name None e told failed =
      let memory : named.fault ≡ Media media.Memory = rw e at told in
      let h : Media media.Device ≡ Media media.Memory = sym is ∙ memory in
      cc

-- One more read after quiet reads.
pub read_on : {S : Type 0} (stored : S → Files) (honest : S → Bool) (failures : S → ℕ) (failed_at : S → List ℕ → Type 0)
    (old mid new : S) (source : Source) (named : NamedFault) (fault : BindFault)
    → fault ≡ at_index source.number named → IsNamedAs source named
    → IsKept stored honest failures failed_at old mid
    → HasRead stored honest failures failed_at mid new (¬ (named.fault ≡ Media media.Device))
    (named.fault ≡ Media media.Device) (named.fault ≡ Media media.Device → failed_at new (name_of_source source))
    → HasRead stored honest failures failed_at old new (¬ ((refusal_of fault).number ≡ 22))
    ((refusal_of fault).number ≡ 22)
    ((refusal_of fault).number ≡ 22 → HoldsOfFile (failed_at new) (refusal_of fault).location)
read_on stored honest failures failed_at old mid new source named fault of_index name kept read = record {
  same = read.same ∙ kept.same;
  honest_same = read.honest_same ∙ kept.honest_same;
  cause = record {
    later = rw kept.quiet at read.cause.later;
    left = λ quiet. read.cause.left (λ is. quiet (number ∙ ap (λ f. (refusal_of_source source f).number) is))
        ∙ kept.quiet;
    rose = λ device. rw kept.quiet at (read.cause.rose (told device));
  };
  keeps = λ n failed. read.keeps n (kept.keeps n failed);
  failed_there = λ device. rw of_index (device_place (failed_at new) source named (told device) name
      (read.failed_there (told device)));
} where
  number : (refusal_of fault).number ≡ (refusal_of_source source named.fault).number
  number = rw of_index (same_number source named)

  told : (refusal_of fault).number ≡ 22 → named.fault ≡ Media media.Device
  told device = device_told source named.fault (sym number ∙ device)
