use Rattle.passes.specs.Left.{standard_left}
use Rattle.consolidate.proofs.consolidate_call.consolidate_watched.Goals as goal

pub returns-in-Ok-clause-consolidated : goal.returns-in-Ok-clause-consolidated
returns-in-Ok-clause-consolidated g c = let told = rw c.report_on.ensures at c.in-Ok.ensures in
    record {
      answer = assumption told.answer;
      same_sound = λ honest right. (told.finished honest right tt).same_sound;
      written = λ honest right. let is = told.finished honest right tt in record {
        project = is.project;
        binding = is.binding;
        spelled = is.spelled;
        accepted = is.accepted;
        written = is.written;
        notices = is.notices;
      };
      durable = λ right. told.durable right tt;
      list_last = λ right. tt;
      report_last = λ right. tt;
    }

pub returns-in-Ok-clause-standard : goal.returns-in-Ok-clause-standard
returns-in-Ok-clause-standard g c are =
    rw (standard_left _ _ c.args.choice.keeping.passes.items are) at (returns-in-Ok-clause-consolidated g c)

pub returns-in-Err-clause-consolidated : goal.returns-in-Err-clause-consolidated
returns-in-Err-clause-consolidated g c = assumption (rw c.report_on.ensures at c.in-Err.ensures)

pub returns-in-Err-clause-standard : goal.returns-in-Err-clause-standard
returns-in-Err-clause-standard g c are =
    rw (standard_left _ _ c.args.choice.keeping.passes.items are) at (returns-in-Err-clause-consolidated g c)
