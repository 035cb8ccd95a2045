use Rattle.std.proofs.Common.{List, ap, arith, length, rules, sym, ◌∙◌}
use Rattle.std.proofs.lemmas.List.Sorted.{IsPartitionPoint-from_clause}
use Rattle.sound_terms.specs.declared.piece.Run.{Run}
use Rattle.sound_terms.specs.Homes.{IsInRun, place_by}
use Rattle.list_terms.specs.Renewed.{run_number}
use Rattle.mediaset.specs.Runs.{AreApart}
use Rattle.relink.specs.Begun.{is_begun}
use Rattle.relink.proofs.RunOf.{counted, parted, run_number_of, run_of}
use Rattle.relink.proofs.search.number_of.Goals as goal

pub overflow_cast-result : goal.overflow_cast-result
overflow_cast-result c =
    let sound = c.as_slice.ensures.sound in
    let lent = ap length c.as_slice.ensures.lent in
    omega (arith, sound.few, lent, c.partition_point-begun.ensures.bound)

pub returns : goal.returns
returns c =
    let list = c.as_slice.result.now in
    let file = c.args.file in
    let frame = c.args.frame in
    let home = place_by c.homes-homes.result.now in
    let apart : AreApart (place_by c.homes-homes.result.now) c.as_slice.result.now =
    rw (c.homes-homes.ensures, c.as_slice.ensures.lent) c.as_slice.ensures.sound.apart in
    let there : IsInRun c.as_slice.result.now c.args.file c.args.frame = rw c.as_slice.ensures.lent c.requires in
    let found = run_of list file frame there in
    let point =
    IsPartitionPoint-from_clause (is_begun home (home file) frame)
    list c.partition_point-begun.result c.partition_point-begun.ensures.partitioned
    (parted home list file frame apart) (λ a r q k. rw (sym c.position-position.ensures) (search rules)) in
    counted home list file frame apart found.0 c.partition_point-begun.result found.1
    c.partition_point-begun.ensures.bound point
    ∙ sym (run_number_of home list file frame found.0 apart found.1)
    ∙ ap (λ (runs : List Run). run_number 1 runs file frame) c.as_slice.ensures.lent
