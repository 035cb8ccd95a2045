-- Sums stored at a depth that are outside its range.
use Rattle.std.specs.Prelude.{◌≡◌, ℕ, ◌-◌, ◌*◌, ◌^◌, ℤ, List, length, map}
use Rattle.std.specs.List.{filter}
use Rattle.sound_terms.specs.Mix.{full_scale}
use Rattle.clipping.specs.Clips.{is_clipped, loudest}

-- sums stored at a depth, scaled to full scale
abbrev pub at_full_scale : (depth : ℕ) → List ℤ → List ℤ
at_full_scale depth sums = map (full_scale depth) sums

-- `count` sums are outside the range of the depth, and `farthest` is the greatest distance of such a sum from zero
pub record AreOutside (depth : ℕ) (sums : List ℤ) (count farthest : ℕ) : Type 0 where
  pub each : count ≡ length (filter (is_clipped depth) (at_full_scale depth sums))
  pub most : farthest * 2 ^ (48 - depth) ≡ loudest depth (at_full_scale depth sums)
