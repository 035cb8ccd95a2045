use Rattle.std.proofs.Common.{length, map}
use Rattle.shelf.specs.Files.{files_of}
use Rattle.shelf.specs.History.{note_of}
use Rattle.shelf.proofs.Replayed.{IsReplay}
use Rattle.shelf.proofs.memory.record.Record.after_crash.Given as goal

abbrev pub invariant-loop-call : goal.invariant-loop-call
invariant-loop-call l =
    IsReplay l.fn.kept l.fn.fill (files_of l.fn.self.start) (map note_of l.fn.self.calls.items)
    (map note_of l.calls.items) (files_of l.read) (files_of l.left)

abbrev pub decreases-loop-call : goal.decreases-loop-call
decreases-loop-call l = length l.calls.items
