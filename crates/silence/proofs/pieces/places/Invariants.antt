use Rattle.std.proofs.Common.{ℕ, ◌<◌}
use Rattle.std.specs.List.{All, Contains}
use Rattle.silence.proofs.pieces.places.Given as goal

-- all indexes so far are in the list
abbrev pub invariant-loop-position : goal.invariant-loop-position
invariant-loop-position l = record {
  inside : All (λ place. place < l.count) l.places.items;
  each : (n : ℕ) → n < l.position → Contains l.places.items n;
}
