use Rattle.std.proofs.Common.{◌≡◌, length, IsTrue}
use Rattle.sound_terms.specs.Sounds.{reading_by}
use Rattle.passes.specs.Silent.{is_silent_in}
use Rattle.devices.specs.Frame.{IsQuiet}
use Rattle.silence.specs.Holding.{IsSearched}
use Rattle.silence.proofs.Answered.{AreRight}
use Rattle.silence.proofs.silences.asked_in_order.Given as goal

-- the pieces at the indexes so far are checked, and nothing has failed
abbrev pub invariant-loop-position : goal.invariant-loop-position
invariant-loop-position g l = record {
  quiet : IsQuiet g.S.Shelf l.fn.shelf l.shelf;
  whole : length l.silent.items ≡ length l.pieces;
  known : IsTrue (g.S.Shelf.honest l.fn.shelf) → IsSearched (reading_by (g.S.Shelf.stored l.fn.shelf) l.sounds) l.search;
  right : IsTrue (g.S.Shelf.honest l.fn.shelf)
      → AreRight (is_silent_in (reading_by (g.S.Shelf.stored l.fn.shelf) l.sounds)) l.pieces l.silent.items l.order
      l.position-index;
}
