-- An entry without a fault plays samples and channels that its file has.
use Rattle.std.proofs.Common.{◌≡◌, ◌∙◌, ℕ, zero, suc, ◌+◌, ◌-◌, ◌<◌, ◌≤◌, true, List, [], ◌∷◌, Option, None, Some, min, refl, sym, ap, arith, option_map}
use Rattle.std.specs.List.{slice_get}
use Rattle.std.proofs.lemmas.Bool.Decides.{nat_tests}
use Rattle.sampletime.specs.TimeCode.{day}
use Rattle.sound_terms.specs.declared.Event.{Event}
use Rattle.sound_terms.specs.declared.BoundIndex.{BoundIndex}
use Rattle.sound_terms.specs.Mix.{index_of}
use Rattle.sound_terms.specs.Sounds.{SoundFacts}
use Rattle.sound_terms.specs.Entries.{IsPlayable}
use Rattle.list_terms.specs.Binding.{Binding, OpenedFile, addressable_from}
use Rattle.list_terms.specs.Accepted.{entry_fault, entry_refusal, event_fault, first_fault, span_fault}
use Rattle.list_terms.specs.WholeProject.{is_event}

-- No entry of a project without a fault is faulty.
pub no_entry_fault : (binding : Binding) (events : List Event) (i : ℕ) (event : Event)
    → event_fault binding events ≡ None → slice_get events i ≡ Some event
    → entry_fault binding event ≡ None
no_entry_fault binding [] i event none there = cc
no_entry_fault binding (first ∷ events) i event none there =
    by_first (λ k. no_entry_fault binding events k event) (entry_fault binding first) refl i there where
      by_first : ((k : ℕ) → event_fault binding events ≡ None → slice_get events k ≡ Some event
          → entry_fault binding event ≡ None)
          → (o : Option ℕ) → entry_fault binding first ≡ o → (i : ℕ) → slice_get (first ∷ events) i ≡ Some event
          → entry_fault binding event ≡ None
      by_first later None e zero there = let same : first ≡ event = cc in ap (entry_fault binding) (sym same) ∙ e
      by_first later None e (suc i) there =
          later i (ap (λ o. first_fault (option_map (entry_refusal first) o) (event_fault binding events)) (sym e)
          ∙ none) there
      by_first later (Some number) e i there =
          let h : Some (entry_refusal first number) ≡ None =
          ap (λ o. first_fault (option_map (entry_refusal first) o) (event_fault binding events)) (sym e) ∙ none in
          cc

-- The fault of an entry whose index is bound to this file.
pub span_is : (binding : Binding) (event : Event) (index : BoundIndex) (file : OpenedFile)
    → index_of binding.indexes event.index ≡ Some index
    → slice_get binding.files index.file ≡ Some file → entry_fault binding event ≡ span_fault index file.facts event
span_is binding event index file found there = rw (found, there) refl

-- The bounds of an entry without a fault.
pub record Plays (index : BoundIndex) (facts : SoundFacts) (event : Event) : Type 0 where
  pub in_order : event.dest_in ≤ event.dest_out
  pub fades : event.rise.length + event.fall.length ≤ event.dest_out - event.dest_in
  pub channels : event.source.last ≤ facts.channels
  pub frames : event.dest_in < event.dest_out
      → (event.source_in - index.base) + (event.dest_out - event.dest_in) ≤ index.addressable

pub plays : (index : BoundIndex) (facts : SoundFacts) (event : Event) → span_fault index facts event ≡ None
    → Plays index facts event
plays index facts event faultless = record {
  in_order = grind (arith, nat_tests, faultless);
  fades = grind (arith, nat_tests, faultless);
  channels = grind (arith, nat_tests, faultless);
  frames = λ some. grind (arith, nat_tests, faultless, some);
}

-- The bounds of any entry of a project.
pub record HasNumbers (event : Event) : Type 0 where
  pub source_in : event.source_in ≤ day
  pub dest_out : event.dest_out ≤ day
  pub source_from_one : 1 ≤ event.source.first
  pub source_order : event.source.first ≤ event.source.last
  pub source_to_64 : event.source.last ≤ 64
  pub dest_from_one : 1 ≤ event.dest.first
  pub dest_order : event.dest.first ≤ event.dest.last
  pub dest_to_64 : event.dest.last ≤ 64
  pub widths : event.source.last - event.source.first ≡ event.dest.last - event.dest.first

pub has_numbers : (event : Event) → is_event event ≡ true → HasNumbers event
has_numbers event is = record {
  source_in = grind (arith, nat_tests, is);
  dest_out = grind (arith, nat_tests, is);
  source_from_one = grind (arith, nat_tests, is);
  source_order = grind (arith, nat_tests, is);
  source_to_64 = grind (arith, nat_tests, is);
  dest_from_one = grind (arith, nat_tests, is);
  dest_order = grind (arith, nat_tests, is);
  dest_to_64 = grind (arith, nat_tests, is);
  widths = grind (arith, nat_tests, is);
}

source_ends : (from base length addressable frames : ℕ) → from ≤ day → addressable ≡ min frames (day - base)
    → (0 < length → (from - base) + length ≤ addressable)
    → (from - base) + length ≤ day
source_ends from base zero addressable frames early is inside = omega (arith, early)
source_ends from base (suc n) addressable frames early is inside = let within = inside (omega arith) in
    omega (arith, is, within)

pub is_playable : (index : BoundIndex) (facts : SoundFacts) (event : Event) → Plays index facts event → HasNumbers event
    → index.addressable ≡ addressable_from index.base facts → IsPlayable index event
is_playable index facts event plays has addressable = record {
  in_order = plays.in_order;
  in_day = has.dest_out;
  fades = plays.fades;
  source_from_one = has.source_from_one;
  dest_from_one = has.dest_from_one;
  some = has.dest_order;
  dest_to_64 = has.dest_to_64;
  source_to_64 = omega (arith, has.widths, has.source_order, has.source_to_64);
  source_in_day =
      source_ends event.source_in index.base (event.dest_out - event.dest_in)
      index.addressable facts.frames has.source_in addressable
      (λ some. plays.frames (omega (arith, some)));
}
