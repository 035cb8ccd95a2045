-- The list over the media of runs is bound: each index to its medium, from the time of the run's first frame on.
use Rattle.std.proofs.Common.{◌≡◌, ◌∙◌, ℕ, suc, ◌+◌, ◌-◌, ◌<◌, ◌≤◌, Bool, true, false, min, nat_lt, List, [], ◌∷◌, ◌++◌, length, All, Option, None, Some, Ok, bytes_eq, position, refl, append-nil, append_assoc, arith, slice_get}
use Rattle.std.proofs.lemmas.Bool.Decides.{nat_tests}
use Rattle.std.proofs.lemmas.List.{length_push}
use Rattle.std.proofs.lemmas.List.Elements.{All-nil, All-push}
use Rattle.std.proofs.lemmas.List.Quantifiers.{position-Some}
use Rattle.std.proofs.lemmas.Option.{slice_get_within}
use Rattle.sampletime.specs.TimeCode.{day}
use Rattle.sound_terms.specs.declared.Event.{Event}
use Rattle.sound_terms.specs.declared.piece.Home.{Home}
use Rattle.sound_terms.specs.declared.piece.Run.{Run}
use Rattle.sound_terms.specs.Sounds.{SoundFacts}
use Rattle.work_terms.specs.Disk.{Files}
use Rattle.list_terms.specs.Binding.{Binding, OpenedFile, is_used, nothing_bound}
use Rattle.list_terms.specs.Bound.{with_source, with_sources}
use Rattle.list_terms.specs.MediaNames.{media_place, other_media_name}
use Rattle.list_terms.specs.Renewed.{media_name, numbered, run_base, run_index, run_source}
use Rattle.consolidation.specs.Work.{HasMedia, HasMedium, opened_medium}

-- where no element passes none has a place
position-none : {X : Type 0} (p : X → Bool) (xs : List X) (d : X) → All (λ x. p x ≡ false) xs → position p xs ≡ None
position-none p xs d none = by_place (position p xs) refl where
  by_place : (place : Option ℕ) → position p xs ≡ place → place ≡ None
  by_place None e = refl
  by_place (Some i) e = grind (arith, position-Some p xs i d e, none i d)

-- no number from this one on names a file that is opened
abbrev IsFresh : List OpenedFile → ℕ → Type 0
IsFresh files number =
    (m : ℕ) → number ≤ m → m < 100000
    → All (λ (file : OpenedFile). bytes_eq file.facts.name (media_name m) ≡ false) files

module _ (sources written : Files) (sounds : List SoundFacts) (homes : List Home) (events : List Event) where
  -- the media of runs behind this front
  abbrev pub with_media : Binding → ℕ → List Run → Binding
  with_media front number runs = record {
    files = front.files ++ numbered (opened_medium sounds homes) number runs;
    indexes = front.indexes ++ numbered (run_index homes) number runs;
    notices = front.notices;
  }

  -- the next medium is bound
  medium_bound : (front : Binding) (number : ℕ) (run : Run) → HasMedium sources written sounds homes number run
      → number < 100000 → suc (length front.files) ≡ number → is_used events number ≡ true → IsFresh front.files number
      → with_source written events front (run_source homes number run) ≡ Ok (with_media front number (run ∷ []))
  medium_bound front number run has few counted used fresh =
      let unopened =
      position-none (λ (file : OpenedFile). bytes_eq file.facts.name (media_name number)) front.files
      (opened_medium sounds homes number run) (fresh number (omega arith) few) in
      let base : ℕ = run_base homes run in
      let apart : nat_lt 0 ((base - base) + (base - base)) ≡ false = grind (arith, nat_tests) in
      let whole : min run.length (day - base) ≡ run.length = omega (arith, has.in_day) in
      let file : length front.files ≡ number - 1 = omega (arith, counted) in
      rw (used, media_place number few, unopened, has.there, has.reads_back, apart, whole, file, append-nil front.notices) refl

  -- no later number is named by it
  still_fresh : (front : Binding) (number : ℕ) (run : Run) → number < 100000 → IsFresh front.files number
      → IsFresh (with_media front number (run ∷ [])).files (suc number)
  still_fresh front number run few fresh m above below =
      All-push (λ (file : OpenedFile). bytes_eq file.facts.name (media_name m) ≡ false) front.files
      (opened_medium sounds homes number run)
      (fresh m (omega arith) below) (other_media_name number m few below (omega (arith, above)))

  -- all media are bound behind a front
  media_bound_behind : (front : Binding) (number : ℕ) (runs : List Run) → number + length runs ≤ 100000
      → suc (length front.files) ≡ number
      → ((k n : ℕ) (run : Run) → n ≡ number + k → slice_get runs k ≡ Some run
      → HasMedium sources written sounds homes n run × (is_used events n ≡ true))
      → IsFresh front.files number
      → with_sources written events front (numbered (run_source homes) number runs) ≡ Ok (with_media front number runs)
  media_bound_behind front number [] few counted media fresh = rw (append-nil front.files, append-nil front.indexes)
  media_bound_behind front number (run ∷ runs) few counted media fresh =
      let here = media 0 number run (omega arith) refl in
      let next = with_media front number (run ∷ []) in
      let long = length_push front.files (opened_medium sounds homes number run) in
      let rest =
      media_bound_behind next (suc number) runs (omega (arith, few)) (omega (arith, long, counted))
      (λ k n other is there. media (suc k) n other (omega (arith, is)) there)
      (still_fresh front number run (omega (arith, few)) fresh) in
      rw (medium_bound front number run here.0 (omega (arith, few)) counted here.1 fresh)
      (rest ∙ rw (append_assoc front.files, append_assoc front.indexes))

  -- the list over the media is bound to them
  pub media_bound : (runs : List Run) → length runs ≤ 32767 → HasMedia sources written sounds homes runs
      → ((k : ℕ) → k < length runs → is_used events (1 + k) ≡ true)
      → with_sources written events nothing_bound (numbered (run_source homes) 1 runs)
      ≡ Ok (with_media nothing_bound 1 runs)
  media_bound runs few media used =
      media_bound_behind nothing_bound 1 runs (omega (arith, few)) refl
      (λ k n run is there. rw is (media k run there, used k (slice_get_within runs k run there)))
      (λ m above below. All-nil (λ (file : OpenedFile). bytes_eq file.facts.name (media_name m) ≡ false))
