-- Known silence decides the silence of parts.
use Rattle.std.proofs.Common.{◌≡◌, ◌⊎◌, inl, inr, ℕ, ◌+◌, ◌<◌, ◌≤◌, Bool, true, false, Option, None, Some, IsTrue, refl, arith}
use Rattle.std.specs.Prelude.{ℤ, pos, ◌↔◌, nat_le, is_some, unwrap_or}
use Rattle.std.proofs.lemmas.Bool.{cases_lt}
use Rattle.std.proofs.lemmas.Bool.Decides.{nat_tests}
use Rattle.sound_terms.specs.Mix.{Reading}
use Rattle.silence.specs.declared.part.Part.{Part}
use Rattle.silence.specs.declared.known.Known.{Known}
use Rattle.silence.specs.Known.{IsSo, Reaches, Tells}
use Rattle.silence.specs.Zero.{IsFirstSounding, IsZero, IsZeroAt}

-- an empty known silence is correct
pub nothing_before : (reading : Reading) (file : ℕ) (part : Part)
    → IsSo reading (record { file = file; part = record part { to = part.from }; sounds = false })
nothing_before reading file part = record {
  zero = λ frame low high. absurd (omega arith);
  sounds = λ is. absurd (cc);
}

module _ (reading : Reading) (known : Known) (file : ℕ) (part : Part) (reaches : Reaches known file part)
    (so : IsSo reading known) where
  -- the part has the channels of the known silence
  zero_there : (frame : ℕ) → known.part.from ≤ frame → frame < known.part.to
      → IsZeroAt (reading file) part.first part.width frame
  zero_there frame low high j wide =
      let narrow : j < known.part.width = rw reaches.width wide in
      rw (← reaches.same_file, ← reaches.first) (so.zero frame low high j narrow)

  sounds_there : known.sounds ≡ true → IsZeroAt (reading file) part.first part.width known.part.to → ⊥
  sounds_there is silent =
      so.sounds is (λ j wide.
      let narrow : j < part.width = rw (← reaches.width) wide in rw (reaches.same_file, reaches.first) (silent j narrow))

  -- the part is silent exactly if the known silence extends to its end
  pub told : (part.to ≤ known.part.to) ⊎ (known.sounds ≡ true)
      → IsTrue (nat_le part.to known.part.to) ↔ IsZero (reading file) part
  told decided = (is, called decided) where
    is : IsTrue (nat_le part.to known.part.to) → IsZero (reading file) part
    is ends frame low high =
        let before = reaches.before in
        let within : part.to ≤ known.part.to = grind (arith, nat_tests) in
        zero_there frame (omega arith) (omega arith)

    called : (part.to ≤ known.part.to) ⊎ (known.sounds ≡ true) → IsZero (reading file) part
        → IsTrue (nat_le part.to known.part.to)
    called (inl within) silent = grind (arith, nat_tests)
    called (inr sounds) silent = by_place (cases_lt known.part.to part.to) where
      by_place : (known.part.to < part.to) ⊎ (part.to ≤ known.part.to) → IsTrue (nat_le part.to known.part.to)
      by_place (inl less) = absurd (sounds_there sounds (silent known.part.to reaches.up_to less))
      by_place (inr within) = grind (arith, nat_tests)

  -- known silence extended up to the first sample frame that is not zero, or up to the end of the part
  module _ (sound : ℕ → ℕ → ℤ) (same : (channel frame : ℕ) → reading file channel frame ≡ sound channel frame)
      (less : known.part.to < part.to) where
    further : (to : ℕ) → ((frame : ℕ) → known.part.to ≤ frame → frame < to
        → IsZeroAt sound part.first part.width frame)
        → (frame : ℕ) → known.part.from ≤ frame → frame < to
        → IsZeroAt (reading known.file) known.part.first known.part.width frame
    further to rest frame low high j wide = by_place (cases_lt frame known.part.to) where
      by_place : (frame < known.part.to) ⊎ (known.part.to ≤ frame)
          → reading known.file (known.part.first + j) frame ≡ pos 0
      by_place (inl early) = so.zero frame low early j wide
      by_place (inr late) =
          let narrow : j < part.width = rw (← reaches.width) wide in
          rw (reaches.same_file, reaches.first, same (part.first + j) frame) (rest frame late high j narrow)

    pub looked : (found : Option ℕ)
        → IsFirstSounding (IsZeroAt sound part.first part.width) known.part.to part.to found
        → IsSo reading (record {
          file = known.file;
          part = record known.part { to = unwrap_or found part.to };
          sounds = is_some found;
        })
    looked None rest = record { zero = further part.to rest; sounds = λ is. absurd (cc) }
    looked (Some to) (low, high, rest, sounds) = record {
      zero = further to rest;
      sounds = λ is silent. sounds (λ j wide.
          let wider : j < known.part.width = rw reaches.width wide in
          rw (← same (part.first + j) to, ← reaches.same_file, ← reaches.first) (silent j wider));
    }

-- the extended silence still reaches the part
reaches_on : (known : Known) (file : ℕ) (part : Part) → Reaches known file part → (to : ℕ) (sounds : Bool)
    → part.from ≤ to → Reaches (record {
      file = known.file;
      part = record known.part { to = to };
      sounds = sounds;
    }) file part
reaches_on known file part reaches to sounds up_to = record {
  same_file = reaches.same_file;
  first = reaches.first;
  width = reaches.width;
  before = reaches.before;
  up_to = up_to;
}

-- the extended silence decides the part
pub tells_then : (known : Known) (file : ℕ) (part : Part) → Reaches known file part → known.part.to < part.to
    → (is_zero : ℕ → Type 0) (found : Option ℕ) → IsFirstSounding is_zero known.part.to part.to found
    → Tells (record {
      file = known.file;
      part = record known.part { to = unwrap_or found part.to };
      sounds = is_some found;
    }) file part
tells_then known file part reaches less is_zero None first = record {
  reaches = reaches_on known file part reaches part.to false (let up_to = reaches.up_to in omega arith);
  decided = inl (omega arith);
}
tells_then known file part reaches less is_zero (Some to) (low, high, rest, sounds) = record {
  reaches = reaches_on known file part reaches to true (let up_to = reaches.up_to in omega arith);
  decided = inr refl;
}
