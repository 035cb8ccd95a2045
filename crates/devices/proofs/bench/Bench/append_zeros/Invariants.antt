use Rattle.std.proofs.Common.{◌+◌, ◌*◌, ◌%◌, replicate, IsSome, IsTrue, Ok}
use Rattle.devices.specs.Frame.{Appends}
use Rattle.devices.proofs.bench.Bench.append_zeros.Given as goal

-- the zeros so far were added to a file that was there
abbrev pub invariant-loop-piece : goal.invariant-loop-piece
invariant-loop-piece g l = record {
  added : Appends g.Self.Bench l.name (replicate (l.count % 4096 + 4096 * l._piece) 0) l.fn.self l.self (Ok tt);
  there : IsTrue (g.Self.Bench.honest l.fn.self) → IsSome (g.Self.Bench.stored l.fn.self l.name);
}
