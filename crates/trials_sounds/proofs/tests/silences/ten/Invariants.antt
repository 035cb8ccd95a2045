use Rattle.std.proofs.Common.{All}
use Rattle.sound_terms.specs.Groups.{IsGroup, IsPiece}
use Rattle.trials_sounds.proofs.tests.silences.ten.Given as goal

-- the groups so far are groups of valid pieces
abbrev pub invariant-loop-number : goal.invariant-loop-number
invariant-loop-number l = All IsGroup l.groups.items × All (All IsPiece) l.groups.items
