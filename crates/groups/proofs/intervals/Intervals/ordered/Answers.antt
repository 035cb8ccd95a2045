use Rattle.std.proofs.Common.{rules}
use Rattle.std.specs.List.{All}
use Rattle.std.proofs.lemmas.List.Sorted.{All-permutation, IsNonDecreasingBy-from_sort_by_key, answers_always}
use Rattle.sound_terms.specs.Groups.{IsGroup, IsPiece, start_of}
use Rattle.sound_terms.specs.OrderLaws.{mix_in_order, reads_in_order, whole_in_order}
use Rattle.groups.proofs.StartOrder.{order_rises, sorted_is_order}
use Rattle.groups.proofs.intervals.Intervals.ordered.Goals as goal

pub returns-clause-order : goal.returns-clause-order
returns-clause-order c = sorted_is_order c.args.groups.items c.sort_by_key.new.self.items
    (c.sort_by_key.ensures.stable start_of (answers_always _ _ _ (λ f a r g h. search rules)))
    (IsNonDecreasingBy-from_sort_by_key start_of _ c.in_ok-sort_by_key.ensures.sorted (λ a r f k. search rules))

pub invariant_of-result : goal.invariant_of-result
invariant_of-result c = record {
  groups_ok = All-permutation IsGroup _ _ c.sort_by_key.ensures.permutation c.requires.groups;
  pieces_ok = All-permutation (All IsPiece) _ _ c.sort_by_key.ensures.permutation c.requires.pieces;
  in_order = rw (returns-clause-order c) (order_rises c.args.groups.items);
}

pub returns-clause-same_mix : goal.returns-clause-same_mix
returns-clause-same_mix c reading channel time =
    rw (returns-clause-order c) (mix_in_order reading channel time c.args.groups.items)

pub returns-clause-same_reads : goal.returns-clause-same_reads
returns-clause-same_reads c file channel frame =
    rw (returns-clause-order c) (reads_in_order file channel frame c.args.groups.items)

pub returns-clause-same_whole : goal.returns-clause-same_whole
returns-clause-same_whole c = rw (returns-clause-order c) (whole_in_order c.args.groups.items)
