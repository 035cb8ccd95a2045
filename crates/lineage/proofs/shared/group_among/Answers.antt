use Rattle.std.proofs.Common.{◌∙◌, ap, arith, get_or, sym, take}
use Rattle.std.proofs.lemmas.List.{take_more}
use Rattle.lineage.specs.declared.played.Played.{Played}
use Rattle.lineage.specs.Groups.{shown}
use Rattle.lineage.specs.Played.{numbers_of}
use Rattle.lineage.proofs.Grouping.{numbers_more}
use Rattle.lineage.proofs.shared.group_among.Goals as goal

pub loop-other-preserved : goal.loop-other-preserved
loop-other-preserved c =
    let none : Played = record { number = 0; file = 0; frame = 0; first = 0; start = 0; end = 0; dest = 0; last = 0 } in
    let given = c.args.entries.now in
    let entry = c.args.entry.now in
    let k = c.loop-other.other-index in (
      c.in_ok-add_playing.ensures.added (numbers_of (take k given) entry) c.loop-other.invariant.0
          ∙ ap shown (sym (numbers_more entry (take k given) (get_or given k none)))
          ∙ ap (λ done. shown (numbers_of done entry)) (sym (take_more given k none c.loop-other-test.true)),
      omega (arith, c.in_ok-add_playing.ensures.few, c.loop-other.invariant.1),
    )
