use Rattle.std.proofs.Common.{rules, ap, ◌∙◌}
use Rattle.std.proofs.lemmas.List.Sorted.{IsNonDecreasingBy-from_sort_by_key}
use Rattle.mediaset.specs.Spans.{merged_all}
use Rattle.mediaset.specs.declared.spans.Span.{Span}
use Rattle.mediaset.proofs.AllRuns.{all_runs, open_spans, sorted_spans}
use Rattle.mediaset.proofs.kept.all_runs.Goals as goal

pub merge-requires : goal.merge-requires
merge-requires c =
    let homes = c.args.homes.now in
    rw (c.as_slice-2.ensures.value) (open_spans homes _
    (sorted_spans homes c.args.handle c.args.intervals.now c.in_ok-spans.spans.items _ c.as_slice.ensures.sound
    c.in_ok-spans.ensures c.sort_by_key.ensures.permutation))

pub returns : goal.returns
returns c =
    let runs = c.in_ok-runs.ensures ∙ ap merged_all c.as_slice-2.ensures.value in
    record {
      kept = rw runs (all_runs c.args.homes.now c.args.handle c.args.intervals.now c.in_ok-spans.spans.items _
          c.as_slice.ensures.sound c.in_ok-spans.ensures
          c.sort_by_key.ensures.permutation
          (IsNonDecreasingBy-from_sort_by_key (λ (s : Span). s.key) _ c.in_ok-sort_by_key.ensures.sorted
          (λ a r f k. search rules)));
      homes = c.as_slice.ensures.sound;
    }
