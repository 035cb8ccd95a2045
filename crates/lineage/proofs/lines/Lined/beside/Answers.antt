use Rattle.std.proofs.Common.{◌≡◌, ◌-◌, ◌∙◌, List, false, ap, arith, drop, filter, get_or, length, length-drop, map, rules, subst, sym, take}
use Rattle.std.proofs.lemmas.List.{take_all}
use Rattle.std.specs.Prelude.{nat_le, nat_lt}
use Rattle.std.specs.List.Sorted.{IsNonDecreasingBy}
use Rattle.std.proofs.lemmas.Bool.Decides.{nat_tests}
use Rattle.std.proofs.lemmas.List.Sorted.{IsPartitionPoint-from_clause, IsPartitionedBy-leb, IsPartitionedBy-ltb}
use Rattle.lineage.specs.declared.played.Played.{Played}
use Rattle.lineage.specs.Lines.{line_of}
use Rattle.lineage.specs.Played.{play_together}
use Rattle.lineage.proofs.OnLines.{dropped_rises, filter_dropped, filter_taken, other_line}
use Rattle.lineage.proofs.lines.Lined.beside.Goals as goal

pub returns : goal.returns
returns c =
    let entry = c.args.entry.now in
    let given = c.args.self.now in
    let entries = c.deref.result.now in
    let again = c.deref-2.result.now in
    let one : entries ≡ given = c.deref.ensures.value ∙ c.self.view_is in
    let two : again ≡ given = c.deref-2.ensures.value ∙ c.self.view_is in
    let rises : IsNonDecreasingBy line_of given = subst (IsNonDecreasingBy line_of) c.self.view_is c.self.invariant in
    let from = c.partition_point-from.result in
    let rest = take (length again - from) (drop from again) in
    let whole : rest ≡ drop from again =
    take_all (length again - from) (drop from again) (omega (arith, length-drop from again)) in
    let count = c.partition_point-count.result in
    let low =
    IsPartitionPoint-from_clause (λ (e : Played). nat_lt (line_of e) (line_of entry)) entries from
    c.partition_point-from.ensures.partitioned
    (IsPartitionedBy-ltb line_of entries (line_of entry) (rw one rises)) (λ a r q k. search rules) in
    let high =
    IsPartitionPoint-from_clause (λ (e : Played). nat_le (line_of e) (line_of entry)) rest count
    c.partition_point-count.ensures.partitioned
    (IsPartitionedBy-leb line_of rest (line_of entry) (rw whole (dropped_rises from again (rw two rises))))
    (λ a r q k. search rules) in
    ap (map (λ (e : Played). e.number))
    (filter_taken (play_together entry) rest count
    (λ k d late below. other_line entry (get_or rest k d)
    (λ same. let above = high.1 k d late below in absurd (grind (arith, nat_tests))))
    ∙ ap (filter (play_together entry)) whole
    ∙ filter_dropped (play_together entry) again from
    (λ k d before below. subst (λ (e : Played). play_together entry e ≡ false)
    (ap (λ (es : List Played). get_or es k d) (one ∙ sym two))
    (other_line entry (get_or entries k d)
    (λ same. let under = low.0 k d (omega arith) before in absurd (grind (arith, nat_tests)))))
    ∙ ap (filter (play_together entry)) two)
