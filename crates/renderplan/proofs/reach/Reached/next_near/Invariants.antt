use Rattle.std.proofs.Common.{◌≡◌, ◌≤◌, ◌-◌, length, drop}
use Rattle.std.specs.List.{flat_map}
use Rattle.sound_terms.specs.Blocks.{lines_of}
use Rattle.renderplan.specs.Sources.{first_source}
use Rattle.renderplan.proofs.reach.Reached.next_near.Given as goal

abbrev pub invariant-loop-next : goal.invariant-loop-next
invariant-loop-next l = record {
  after : l.fn.from ≤ l.next;
  there : l.fn.from ≤ length l.fn.self → l.next ≤ length l.fn.self;
  lines : flat_map (lines_of l.fn.window.from l.fn.window.frames l.fn.window.channels) (drop l.next l.fn.self)
      ≡ flat_map (lines_of l.fn.window.from l.fn.window.frames l.fn.window.channels) (drop l.fn.from l.fn.self);
  first : first_source l.fn.window.from l.fn.window.frames l.fn.window.channels (drop l.next l.fn.self)
      ≡ first_source l.fn.window.from l.fn.window.frames l.fn.window.channels (drop l.fn.from l.fn.self);
}

abbrev pub decreases-loop-next : goal.decreases-loop-next
decreases-loop-next l = length l.fn.self - l.next
