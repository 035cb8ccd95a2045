use Rattle.markfile.specs.Format.{marks_name}
use Rattle.markfile.proofs.Torn.{are_set, set_beside, set_last, with_set}
use Rattle.markfile.proofs.marked_blocks.set_marks.Goals as goal

pub returns-in-Ok-clause-marked : goal.returns-in-Ok-clause-marked
returns-in-Ok-clause-marked g c honest run marks lasts fits =
    let from = c.args.from in
    let behind = c.args.end in
    let order = c.requires.order in (
      with_set from behind marks,
      are_set run from behind order marks lasts.ours fits,
      record {
        ours = (set_beside run from behind order marks lasts.ours fits).of_run;
        kept = λ x left.
            let torn = c.in-Ok.ensures.crash x left in
            set_last run from behind order marks lasts.ours fits (g.B.Bench.stored c.args.bench.now marks_name)
            (x marks_name) (torn.0 marks_name) (g.B.Bench.stored c.write_ones.new.bench marks_name)
            (lasts.kept torn.0 torn.1) torn.2.here (c.in-Ok.ensures.written honest).here
            (c.in-Ok.ensures.durable honest x left);
      },
    )
