use Rattle.std.proofs.Common.{◌≡◌, ℕ, ◌+◌, ◌*◌, ◌≤◌, get_or, length}
use Rattle.std.specs.Prelude.{ℤ}
use Rattle.sound_terms.specs.Depth.{bits_of}
use Rattle.sound_terms.specs.Mix.{Reading}
use Rattle.sound_terms.specs.Blocks.{sums_with}
use Rattle.blockmachine.specs.Playing.{Plays}
use Rattle.blockmachine.specs.Slopes.{IsAt}
use Rattle.blockmachine.specs.Sums.{AreSums, block_of}
use Rattle.blockmachine.proofs.addition.add_rows.Given as goal

abbrev pub invariant-loop-i : goal.invariant-loop-i
invariant-loop-i l = record {
  slope : IsAt l.played.shape l.i l.slope.falls l.slope.rise.fraction.num l.slope.rise.fraction.den l.slope.rise.by;
  same_length : length l.sums ≡ length l.fn.sums;
  played : (reading : Reading)
      → Plays reading l.played.stretch l.played.frames.channels (bits_of l.played.frames.depth) l.played.frames.samples.now
      → (before : ℕ → ℕ → ℤ) → AreSums (block_of l.lanes.frames l.lanes.channels l.fn.sums) before
      → AreSums (block_of l.lanes.frames l.lanes.channels l.sums)
      (sums_with reading (record l.played.stretch { length = l.i }) l.played.shape before);
  behind : (n : ℕ) (d : ℤ) → (l.played.stretch.at + l.i) * l.lanes.channels ≤ n → get_or l.sums n d ≡ get_or l.fn.sums n d;
}
