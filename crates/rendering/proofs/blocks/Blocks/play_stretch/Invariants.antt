use Rattle.std.proofs.Common.{◌≡◌, ◌-◌, ◌≤◌, IsTrue, take}
use Rattle.devices.specs.Frame.{IsQuiet}
use Rattle.rendering.specs.Clipping.{Clip, sums_of_blocks}
use Rattle.rendering.specs.Work.{bytes_for, heard}
use Rattle.rendering.specs.Written.{bytes_of_blocks, frames_before}
use Rattle.rendering.proofs.blocks.Blocks.play_stretch.Given as goal

-- the blocks before the next one stand one behind the other
abbrev pub invariant-loop-next : goal.invariant-loop-next
invariant-loop-next g l = record {
  behind : l.blocks.start ≤ l.next;
  inside : l.next ≤ l.blocks.end;
  some : 1 ≤ l.ahead;
  ready : l.self ≡ l.initial.self;
  ended : l.at ≡ bytes_for l.fn.self.planned.range
      (frames_before l.fn.self.planned.range l.next - frames_before l.fn.self.planned.range l.blocks.start);
  sources : IsQuiet g.S.Shelf l.initial.shelf l.shelf;
  played : IsTrue (g.S.Shelf.honest l.initial.shelf) → take l.at l.bytes ≡ bytes_of_blocks l.fn.self.planned.range
      (heard l.fn.self.planned l.fn.self.sounds (g.S.Shelf.stored l.initial.shelf)) l.blocks.start l.next;
  clips : IsTrue (g.S.Shelf.honest l.initial.shelf) → Clip l.fn.self.planned.range
      (sums_of_blocks l.fn.self.planned.range
      (heard l.fn.self.planned l.fn.self.sounds (g.S.Shelf.stored l.initial.shelf)) l.blocks.start l.next) l.clips;
}

abbrev pub decreases-loop-next : goal.decreases-loop-next
decreases-loop-next g l = l.blocks.end - l.next
