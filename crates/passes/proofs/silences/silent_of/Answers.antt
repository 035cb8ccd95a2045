use Rattle.std.proofs.Common.{◌∙◌}
use Rattle.passes.proofs.AllSilences.{all_silences}
use Rattle.passes.specs.Laws.{agrees}
use Rattle.passes.proofs.silences.silent_of.Goals as goal

pub returns-clause-answers : goal.returns-clause-answers
returns-clause-answers g c honest =
    c.in_ok-silent.ensures.answers honest ∙ all_silences (g.P.Samples.reading c.args.samples.now) c.args.intervals.now

pub returns-clause-agrees : goal.returns-clause-agrees
returns-clause-agrees g c honest =
    rw (returns-clause-answers g c honest) (agrees (g.P.Samples.reading c.args.samples.now) c.args.intervals.now)
