use Rattle.std.proofs.Common.{◌≡◌, ◌+◌, ◌≤◌, ◌-◌, ◌++◌, length, drop}
use Rattle.std.specs.List.{flat_map}
use Rattle.sound_terms.specs.Blocks.{lines_of}
use Rattle.renderplan.proofs.reach.Reached.push_lines.Given as goal

abbrev pub invariant-loop-next : goal.invariant-loop-next
invariant-loop-next l = record {
  within : l.next ≤ length l.pieces;
  few : length l.program.lines ≤ length l.fn.program.lines + l.next;
  room : l.program.room ≡ l.fn.program.room;
  written : l.program.lines
      ++ flat_map (lines_of l.window.from l.window.frames l.window.channels) (drop l.next l.pieces)
      ≡ l.fn.program.lines ++ flat_map (lines_of l.window.from l.window.frames l.window.channels) l.pieces;
}

abbrev pub decreases-loop-next : goal.decreases-loop-next
decreases-loop-next l = length l.pieces - l.next
