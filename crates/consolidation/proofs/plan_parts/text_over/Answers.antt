use Rattle.consolidation.proofs.CopiedReading.{have_channels}
use Rattle.consolidation.proofs.plan_parts.text_over.Goals as goal

pub returns-clause-linked : goal.returns-clause-linked
returns-clause-linked c =
    let linked = c.in_ok-renewed.ensures in
    let home = c.requires.1.homes in record {
      reads_back = rw (linked.renewed, home, c.project.ensures.lent) at c.in-Ok.ensures.reads_back;
      all_used = rw home at linked.all_used;
      no_fault = λ renewed indexes files. (rw home at linked.no_fault) renewed indexes
          (have_channels _ _ _ c.args.runs.now.runs renewed.files c.requires.1.left.at_home files);
      relinked = rw home at linked.same_mix;
    }
