use Rattle.std.proofs.lemmas.List.Sorted.{Contains-permutation}
use Rattle.silence.proofs.pieces.reading_order.Goals as goal

pub returns-clause-each : goal.returns-clause-each
returns-clause-each c place below =
    Contains-permutation _ _ place c.in_ok-sort_by_key.ensures.permutation (c.in_ok-order.ensures.each place below)
