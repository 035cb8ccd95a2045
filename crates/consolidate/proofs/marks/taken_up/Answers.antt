use Rattle.consolidate.proofs.marks.taken_up.Goals as goal

pub returns-in-Ok-with_done-clause-taken_up : goal.returns-in-Ok-with_done-clause-taken_up
returns-in-Ok-with_done-clause-taken_up c = record {
  work = c.in-Ok-with_done.ensures.work;
  order = c.in-Ok.jobs.items;
  is_order = c.in-Ok.ensures.order;
  done = c.as_slice.result.now;
  count = rw c.as_slice.ensures.value c.in-Ok-done.ensures.count;
  each = rw c.as_slice.ensures.value c.in-Ok-done.ensures.each;
  board = c.in-Ok-with_done.ensures.board;
  agrees = c.in-Ok-with_done.ensures.done;
  idle = c.in-Ok-with_done.ensures.idle;
  rest = c.in-Ok-with_done.ensures.rest;
}
