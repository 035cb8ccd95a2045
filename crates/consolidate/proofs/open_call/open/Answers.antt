use Rattle.std.proofs.Common.{rules}
use Rattle.consolidate.proofs.open_call.open.Goals as goal

pub returns-in-Ok : goal.returns-in-Ok
returns-in-Ok g c = assumption (c.in-Ok.ensures)

pub returns-in-Err : goal.returns-in-Err
returns-in-Err g c = let told = c.in-Err.ensures in
    record {
      accepted = told.accepted;
      spelt = tt;
      spelled = tt;
      notices = tt;
      refusals = told.refusals;
      bad_text = told.bad_text;
      own = told.own;
      early = search rules;
      in_turn = told.in_turn;
      turn = search rules;
      no_output = search rules;
      only_reads = search rules;
    }
