-- Samples of a file that a stretch plays.
use Rattle.std.specs.Prelude.{◌≡◌, ℕ, ◌+◌, ◌-◌, ◌*◌, ◌<◌, ℤ, pos, List, slice_index_or}
use Rattle.sound_terms.specs.declared.block.Stretch.{Stretch}
use mathlib.Core.HLevel.{×_prop, Unit-prop}
use Rattle.std.proofs.Math.Bridge.{le_prop}
use Rattle.sound_terms.specs.declared.piece.Shape.{Shape}
use Rattle.sound_terms.specs.declared.piece.Shape.TheVariants.{Flat, Rise, Fall}
use Rattle.sound_terms.specs.Groups.{IsRamp}
use Rattle.sound_terms.specs.Mix.{Reading, full_scale}

-- the samples, interleaved over `channels` channels, are those that the stretch plays under this reading
abbrev pub Plays : Reading → Stretch → (channels depth : ℕ) → List ℤ → Type 0
Plays reading stretch channels depth frames = (i j : ℕ) → i < stretch.length → j < stretch.width
    → full_scale depth (slice_index_or frames (i * channels + (stretch.first - 1 + j)) (pos 0))
    ≡ reading stretch.file (stretch.first + j) (stretch.frame + i)

-- two proofs that a shape is a ramp of this length are equal
pub IsRamp-prop : (shape : Shape) (n : ℕ) → IsProp (IsRamp shape n)
IsRamp-prop Flat n = Unit-prop
IsRamp-prop (Rise offset den) n = ×_prop le_prop le_prop
IsRamp-prop (Fall offset den) n = ×_prop le_prop le_prop
