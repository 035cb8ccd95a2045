use Rattle.std.proofs.Common.{◌<◌, ℕ, IsTrue, get_or}
use Rattle.sound_terms.specs.declared.block.Instruction.{Instruction}
use Rattle.sound_terms.specs.Sounds.{reading_by}
use Rattle.devices.specs.Frame.{IsQuiet}
use Rattle.comparison.specs.Matched.{AreMatches}
use Rattle.comparison.specs.Stored.{AddAlike}
use Rattle.comparison.proofs.stored.sum_alike.Given as goal

-- the instructions before k add the same as their counterparts
abbrev pub invariant-loop-k : goal.invariant-loop-k
invariant-loop-k g l = record {
  first_quiet : IsQuiet g.S.Shelf l.fn.first_shelf l.first_shelf;
  second_quiet : IsQuiet g.T.Shelf l.fn.second_shelf l.second_shelf;
  matches : AreMatches g.S.Shelf g.T.Shelf l.first_shelf l.second_shelf l.files.sounds.now l.files.others.now
      l.stored.matches;
  alike : IsTrue (g.S.Shelf.honest l.fn.first_shelf) → IsTrue (g.T.Shelf.honest l.fn.second_shelf)
      → (k : ℕ) (d : Instruction) → k < l.k
      → AddAlike (reading_by (g.S.Shelf.stored l.fn.first_shelf) l.files.sounds.now)
      (reading_by (g.T.Shelf.stored l.fn.second_shelf) l.files.others.now) (get_or l.lines k d) (get_or l.counterparts k d);
}
