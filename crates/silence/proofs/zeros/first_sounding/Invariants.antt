use Rattle.std.proofs.Common.{◌≡◌, ◌-◌, ◌≤◌, ℕ, ◌<◌, IsTrue}
use Rattle.devices.specs.Frame.{IsQuiet}
use Rattle.silence.specs.Holding.{Holds}
use Rattle.silence.specs.Zero.{IsZeroAt, sound_by}
use Rattle.silence.proofs.zeros.first_sounding.Given as goal

-- the sample frames so far are zero, and the window agrees with its file
abbrev pub invariant-loop-at : goal.invariant-loop-at
invariant-loop-at g l = record {
  behind : l.part.from ≤ l.at;
  within : l.at ≤ l.part.to;
  quiet : IsQuiet g.S.Shelf l.fn.shelf l.shelf;
  same_file : l.part.from < l.at → l.window.file ≡ l.file;
  held : IsTrue (g.S.Shelf.honest l.fn.shelf)
      → (l.fn.window.file ≡ l.file → Holds (sound_by (g.S.Shelf.stored l.fn.shelf) l.sound) l.fn.window)
      → l.window.file ≡ l.file → Holds (sound_by (g.S.Shelf.stored l.fn.shelf) l.sound) l.window;
  zero : IsTrue (g.S.Shelf.honest l.fn.shelf)
      → (l.fn.window.file ≡ l.file → Holds (sound_by (g.S.Shelf.stored l.fn.shelf) l.sound) l.fn.window)
      → (frame : ℕ) → l.part.from ≤ frame → frame < l.at
      → IsZeroAt (sound_by (g.S.Shelf.stored l.fn.shelf) l.sound) l.part.first l.part.width frame;
}

abbrev pub decreases-loop-at : goal.decreases-loop-at
decreases-loop-at g l = l.part.to - l.at
