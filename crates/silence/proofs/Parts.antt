-- A part of a sound is zero exactly if its section inside the sound is zero.
use Rattle.std.proofs.Common.{◌≡◌, ◌⊎◌, inl, inr, ℕ, ◌+◌, ◌-◌, ◌<◌, ◌≤◌, false, List, [], ◌∷◌, Option, None, Some, refl, arith}
use Rattle.std.specs.Prelude.{pos, ◌↔◌, min, nat_le, nat_lt}
use Rattle.std.proofs.lemmas.Bool.{cases_lt}
use Rattle.std.proofs.lemmas.Bool.Decides.{nat_tests}
use Rattle.facts.specs.Tests.{otherwise}
use Rattle.sound_terms.specs.Sounds.{SoundFacts, reading_by}
use Rattle.work_terms.specs.Disk.{Files}
use Rattle.silence.specs.declared.part.Part.{Part}
use Rattle.silence.specs.Zero.{IsZero, sound_by}

-- a sound is zero outside its channels and sample frames
outside : (files : Files) (facts : SoundFacts) (channel frame : ℕ) → (facts.channels < channel) ⊎ (facts.frames ≤ frame)
    → sound_by files facts channel frame ≡ pos 0
unfolding sound_by
outside files facts channel frame there = by_file (files facts.name) refl where
  by_place : (bytes : List ℕ) → files facts.name ≡ Some bytes → (facts.channels < channel) ⊎ (facts.frames ≤ frame)
      → reading_by files (facts ∷ []) 0 channel frame ≡ pos 0
  by_place bytes stored (inl high) =
      let out : nat_le channel facts.channels ≡ false = grind (arith, nat_tests) in
      rw stored (otherwise (nat_lt frame facts.frames) (nat_le 1 channel) _ _ _ out)
  by_place bytes stored (inr behind) =
      let out : nat_lt frame facts.frames ≡ false = grind (arith, nat_tests) in rw (stored, out) refl

  by_file : (file : Option (List ℕ)) → files facts.name ≡ file → reading_by files (facts ∷ []) 0 channel frame ≡ pos 0
  by_file None stored = rw stored refl
  by_file (Some bytes) stored = by_place bytes stored there

-- a part is zero exactly if its section inside the sound is
module _ (files : Files) (facts : SoundFacts) (part inside : Part) where
  pub clipped : inside.first ≡ min part.first (facts.channels + 1)
      → inside.width ≡ min (part.first + part.width) (facts.channels + 1) - inside.first
      → inside.from ≡ min part.from facts.frames → inside.to ≡ min part.to facts.frames
      → IsZero (sound_by files facts) inside ↔ IsZero (sound_by files facts) part
  clipped first width from to = (whole, less) where
    whole : IsZero (sound_by files facts) inside → IsZero (sound_by files facts) part
    whole silent frame low high j wide =
        by_place (cases_lt facts.channels (part.first + j)) (cases_lt frame facts.frames) where
          by_place : (facts.channels < part.first + j) ⊎ (part.first + j ≤ facts.channels)
              → (frame < facts.frames) ⊎ (facts.frames ≤ frame)
              → sound_by files facts (part.first + j) frame ≡ pos 0
          by_place (inl above) there = outside files facts (part.first + j) frame (inl above)
          by_place (inr below) (inr behind) = outside files facts (part.first + j) frame (inr behind)
          by_place (inr below) (inl before) =
              let same : inside.first ≡ part.first = omega arith in
              rw (← same) (silent frame (omega arith) (omega arith) j (omega arith))

    less : IsZero (sound_by files facts) part → IsZero (sound_by files facts) inside
    less silent frame low high j wide =
        let same : inside.first ≡ part.first = omega arith in
        rw same (silent frame (omega arith) (omega arith) j (omega arith))
