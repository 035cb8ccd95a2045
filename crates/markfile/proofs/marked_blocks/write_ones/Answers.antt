use Rattle.std.proofs.Common.{subst}
use Rattle.std.specs.Prelude.{OnOk}
use Rattle.std.proofs.lemmas.List.{take-replicate}
use Rattle.work_terms.specs.Disk.{Changes, IsWritten}
use Rattle.markfile.specs.Format.{marks_name}
use Rattle.markfile.proofs.marked_blocks.write_ones.Goals as goal

pub returns-clause-written : goal.returns-clause-written
returns-clause-written g c honest =
    subst (λ bytes. OnOk c.write_synced.result (Changes (IsWritten c.args.at bytes) marks_name
    (g.B.Bench.stored c.args.bench.now) (g.B.Bench.stored c.write_synced.new.bench)))
    (take-replicate c.args.count 2048 1 c.requires) (c.write_synced.ensures.written honest)
