-- The media of runs have the samples and the channels of their sources.
use Rattle.std.proofs.Common.{◌≡◌, ℕ, zero, suc, ◌+◌, ◌&&◌, Bool, true, if◌then◌else◌, nat_le, ℤ, pos, List, [], ◌∷◌, All, map, Some, refl, ap, arith, lt-ltb, slice_get}
use Rattle.std.proofs.lemmas.Bool.Decides.{nat_tests}
use Rattle.std.proofs.lemmas.Option.{slice_get-map}
use Rattle.sound_terms.specs.Depth.{bits_of}
use Rattle.sound_terms.specs.declared.piece.Home.{Home}
use Rattle.sound_terms.specs.declared.piece.Piece.{Piece}
use Rattle.sound_terms.specs.declared.piece.Run.{Run}
use Rattle.sound_terms.specs.Media.{CopiesRuns, sound_at}
use Rattle.sound_terms.specs.Mix.{full_scale}
use Rattle.sound_terms.specs.Sounds.{SoundFacts, reading_by}
use Rattle.work_terms.specs.Disk.{Files}
use Rattle.list_terms.specs.Binding.{OpenedFile}
use Rattle.list_terms.specs.Renewed.{numbered}
use Rattle.interval.specs.AtHome.{IsAtHome}
use Rattle.relink.specs.Linked.{HaveChannels}
use Rattle.consolidation.specs.Work.{HasMedia, opened_medium}

-- the element at a place, under its number
numbered_at : {X Y : Type 0} (f : ℕ → X → Y) (number k n : ℕ) (xs : List X) (x : X) → n ≡ number + k
    → slice_get xs k ≡ Some x → slice_get (numbered f number xs) k ≡ Some (f n x)
numbered_at f number k n [] x is there = absurd (cc)
numbered_at f number zero n (first ∷ xs) x is there = let own : n ≡ number = omega (arith, is) in cc
numbered_at f number (suc k) n (first ∷ xs) x is there =
    numbered_at f (suc number) k n xs x (omega (arith, is)) there

-- two choices that agree where they are taken
same_choice : (taken : Bool) (x y : ℤ) → (taken ≡ true → x ≡ y)
    → (if taken then x else pos 0) ≡ (if taken then y else pos 0)
same_choice taken x y same = grind (arith, same)

module _ (sounds : List SoundFacts) (homes : List Home) where
  -- the media of runs are a reading that copies them
  pub copied : (sources written : Files) (runs : List Run) → HasMedia sources written sounds homes runs
      → CopiesRuns (reading_by sources sounds) runs
      (reading_by written (map (λ (file : OpenedFile). file.facts) (numbered (opened_medium sounds homes) 1 runs)))
  copied sources written runs media k channel i run there below =
      let has = media k run there in
      let facts = sound_at sounds run.file in
      rw (
        slice_get-map (λ (file : OpenedFile). file.facts) (numbered (opened_medium sounds homes) 1 runs) k,
        numbered_at (opened_medium sounds homes) 1 k (1 + k) runs run refl there,
        has.there,
        has.opened,
        has.source_there,
        lt-ltb i run.length below,
        lt-ltb (run.first + i) facts.frames (omega (arith, below, has.inside)),
      )
      (same_choice (nat_le 1 channel && nat_le channel facts.channels) _ _ (λ test.
      ap (full_scale (bits_of facts.depth))
      (has.samples i channel below (grind (arith, nat_tests, test)) (grind (arith, nat_tests, test)))))

  -- and each medium has the channels that a piece plays of the run's file
  pub have_channels : (pieces : List Piece) (runs : List Run) (files : List OpenedFile)
      → All (IsAtHome sounds homes) pieces → files ≡ numbered (opened_medium sounds homes) 1 runs
      → HaveChannels pieces runs files
  have_channels pieces runs files home opened k run there = (
    opened_medium sounds homes (1 + k) run,
    rw opened (numbered_at (opened_medium sounds homes) 1 k (1 + k) runs run refl there),
    λ n d below same. let is = home n d below in rw (← same, is.of_file.there) is.of_file.channels,
  )
