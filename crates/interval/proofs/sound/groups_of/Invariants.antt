use Rattle.std.proofs.Common.{take}
use Rattle.interval.specs.EntrySound.{AreFormed, SoundAs}
use Rattle.interval.proofs.sound.groups_of.Given as goal

-- The entries so far.
abbrev pub invariant-loop-event : goal.invariant-loop-event
invariant-loop-event l = record {
  sound : SoundAs l.checked.bound (take l.event-index l.event-items) l.groups.items;
  formed : AreFormed l.groups.items;
}
