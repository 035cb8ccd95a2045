-- The runs of kept frames are of opened files, lie inside them, and end before the day does.
use Rattle.std.proofs.Common.{◌≡◌, ℕ, zero, suc, ◌+◌, ◌-◌, ◌<◌, ◌≤◌, true, List, [], ◌∷◌, length, All, Some, IfSome, map, ap, arith, slice_get, unwrap_or}
use Rattle.std.specs.List.{list_any}
use Rattle.std.proofs.lemmas.Bool.Decides.{nat_tests}
use Rattle.std.proofs.lemmas.List.{length-map}
use Rattle.std.proofs.lemmas.List.Elements.{All-head, All-tail}
use Rattle.std.proofs.lemmas.Option.{slice_get-map, slice_get_within}
use Rattle.sound_terms.specs.declared.BoundIndex.{BoundIndex}
use Rattle.sound_terms.specs.declared.piece.Home.{Home}
use Rattle.sound_terms.specs.declared.piece.Piece.{Piece}
use Rattle.sound_terms.specs.declared.piece.Run.{Run}
use Rattle.sound_terms.specs.Groups.{pieces_of}
use Rattle.sound_terms.specs.HomeLaws.{addressable_in_day, kept_at_home}
use Rattle.sound_terms.specs.Homes.{AreHomes, kept_of, place_by}
use Rattle.sound_terms.specs.Kept.{AreRuns, IsMaximal, is_near}
use Rattle.sound_terms.specs.Sounds.{SoundFacts}
use Rattle.list_terms.specs.Binding.{Binding, OpenedFile}
use Rattle.list_terms.specs.BoundHomes.{IsBinding, IsBoundTo, home_from, homes_from, homes_of, no_home}
use Rattle.list_terms.specs.Heard.{sounds_of}
use Rattle.interval.specs.AtHome.{IsAtHome}
use Rattle.consolidation.specs.Planned.{IsAddressed}
use Rattle.consolidation.proofs.LeftAtHome.{one_of}

-- the home addresses at most so many frames
abbrev IsShort : ℕ → Home → Type 0
IsShort frames home = home.addressable ≤ frames

-- the home of a file addresses no more frames than the file has
module _ (files : List OpenedFile) (file : ℕ) (facts : SoundFacts)
    (there : slice_get (map (λ (opened : OpenedFile). opened.facts) files) file ≡ Some facts) where
  -- no index of it does, and so no home of it
  index_short : (index : BoundIndex) → IsBoundTo files index → index.file ≡ file → index.addressable ≤ facts.frames
  index_short index is own =
      let same : is.file.facts ≡ facts = cc (slice_get-map (λ (opened : OpenedFile). opened.facts) files file) in
      omega (arith, is.addressable, ap (λ (f : SoundFacts). f.frames) same)

  home_short : (place : ℕ) (indexes : List BoundIndex) → All (IsBoundTo files) indexes
      → IfSome (home_from place indexes file) (IsShort facts.frames)
  home_short place [] bound = tt
  home_short place (index ∷ indexes) bound =
      let own = index_short index (All-head (IsBoundTo files) index indexes bound) in
      grind (arith, nat_tests, own, home_short (place + 1) indexes (All-tail (IsBoundTo files) index indexes bound))

-- the home of the file at a place
home_there : (indexes : List BoundIndex) (from i n : ℕ) (files : List OpenedFile) → n ≡ from + i → i < length files
    → slice_get (homes_from indexes from files) i ≡ Some (unwrap_or (home_from 0 indexes n) no_home)
home_there indexes from i n [] is below = absurd (omega (arith, below))
home_there indexes from zero n (file ∷ files) is below = grind (arith, is)
home_there indexes from (suc i) n (file ∷ files) is below =
    home_there indexes (from + 1) i n files (omega (arith, is)) (omega (arith, below))

-- an opened file has a home, which addresses some of its frames
home_frames : (binding : Binding) (file : ℕ) (facts : SoundFacts) → IsBinding binding
    → slice_get (sounds_of binding) file ≡ Some facts
    → (home : Home) × (slice_get (homes_of binding) file ≡ Some home) × (home.addressable ≤ facts.frames)
home_frames binding file facts is there =
    let within = slice_get_within (sounds_of binding) file facts there in (
      unwrap_or (home_from 0 binding.indexes file) no_home,
      home_there binding.indexes 0 file file binding.files (omega arith)
          (omega (arith, within, length-map binding.files (λ (opened : OpenedFile). opened.facts))),
      grind (arith, home_short binding.files file facts there 0 binding.indexes is.bound),
    )

module _ (binding : Binding) (is : IsBinding binding) (apart : AreHomes (homes_of binding)) (groups : List (List Piece))
    (handle : ℕ) (home : All (IsAtHome (sounds_of binding) (homes_of binding)) (pieces_of groups)) where
  -- a run of kept frames is addressed
  addressed : (run : Run) → IsMaximal (kept_of groups (homes_of binding) handle) run
      → IsAddressed (sounds_of binding) (homes_of binding) run
  addressed run maximal =
      let last : ℕ = run.first + (run.length - 1) in
      let kept = maximal.inside (run.length - 1) (omega (arith, maximal.some)) in
      let below = kept_at_home groups (homes_of binding) handle run.file last kept in
      let ends = addressable_in_day (homes_of binding) apart run.file last below in
      let near : list_any (is_near handle run.file last) (pieces_of groups) ≡ true = grind (arith, nat_tests, kept) in
      let p = one_of (is_near handle run.file last) (IsAtHome (sounds_of binding) (homes_of binding)) (pieces_of groups)
      near home in
      let same : p.0.file ≡ run.file = grind (arith, nat_tests, p.1) in
      let there : slice_get (sounds_of binding) run.file ≡ Some p.2.of_file.facts = rw same at p.2.of_file.there in
      let own = home_frames binding run.file p.2.of_file.facts is there in
      let reach : last < own.0.addressable = rw own.1 at below in
      record {
        of_file = record {
          facts = p.2.of_file.facts;
          there = there;
          some = maximal.some;
          inside = omega (arith, reach, own.2, maximal.some);
        };
        home = own.0;
        homed = own.1;
        in_day = omega (arith, ends, below, maximal.some);
      }

  -- all of them
  pub all_addressed : (runs : List Run)
      → AreRuns (kept_of groups (homes_of binding) handle) (place_by (homes_of binding)) runs
      → All (IsAddressed (sounds_of binding) (homes_of binding)) runs
  all_addressed runs are k d below = addressed _ (are.maximal k d below)
