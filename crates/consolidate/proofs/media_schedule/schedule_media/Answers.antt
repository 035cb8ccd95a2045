use Rattle.consolidate.proofs.media_schedule.schedule_media.Goals as goal

pub returns-in-Ok : goal.returns-in-Ok
returns-in-Ok g c = let told = c.in-Ok.ensures in record {
  answer = assumption told.answer;
  finished = λ honest right done. let is = told.finished honest right done in record {
    project = is.project;
    binding = is.binding;
    accepted = is.accepted;
    out = record { counts = c.in-Ok.made.copied.written; written = is.written; durable = told.durable right done };
    same_sound = is.same_sound;
  };
  durable = λ right done. (told.durable right done).list;
  list_last = told.list_last;
}

pub returns-in-Err : goal.returns-in-Err
returns-in-Err g c = assumption c.in-Err.ensures
