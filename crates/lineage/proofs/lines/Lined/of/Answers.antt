use Rattle.std.proofs.Common.{List, rules, subst}
use Rattle.std.proofs.lemmas.List.Sorted.{IsNonDecreasingBy-from_sort_by_key, answers_always}
use Rattle.lineage.specs.Lines.{PlayAlike, line_of}
use Rattle.lineage.specs.declared.played.Played.{Played}
use Rattle.lineage.proofs.OnLines.{sorted_alike}
use Rattle.lineage.proofs.lines.Lined.of.Goals as goal

pub returns : goal.returns
returns c =
    subst (λ (es : List Played). PlayAlike c.sort_by_key.new.self.items es) (search rules)
    (sorted_alike c.extend_from_slice.new.self.items c.sort_by_key.new.self.items
    (c.sort_by_key.ensures.stable line_of (answers_always _ _ _ (λ f a r g h. search rules))))

pub invariant_of-result : goal.invariant_of-result
invariant_of-result c =
    IsNonDecreasingBy-from_sort_by_key line_of _ c.in_ok-sort_by_key.ensures.sorted (λ a r f k. search rules)
