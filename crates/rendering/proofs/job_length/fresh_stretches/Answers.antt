use Rattle.std.proofs.Common.{◌≡◌, ◌+◌, false, length, refl, arith, min}
use Rattle.std.proofs.lemmas.List.{length_push}
use Rattle.std.proofs.lemmas.List.Elements.{All-push}
use Rattle.rendering.specs.declared.stretch.Stretch.{Stretch}
use Rattle.rendering.specs.Cut.{IsFresh, IsShort}
use Rattle.rendering.proofs.Cuts.{cut-push, even-next, even-push, place-next}
use Rattle.rendering.proofs.job_length.fresh_stretches.Goals as goal

pub loop-first-preserved : goal.loop-first-preserved
loop-first-preserved c =
    let before = c.loop-first.stretches.items in
    let is = c.loop-first.invariant in
    let s : Stretch = record {
      first = c.loop-first.first;
      end = c.min-end.result;
      done = false;
      group = c.group_of_next-group.result;
    } in
    let ends = c.min-end.ensures in
    let far = c.saturating_add.ensures in
    let goes : s.end ≡ min (s.first + c.args.most) c.args.blocks = omega (arith, ends, far) in
    rw c.in_ok-push.ensures.items (record {
      within = omega (arith, ends);
      cut = cut-push before 0 s.first s is.cut refl (omega (arith, ends, far, c.loop-first-test.true, c.requires.most));
      place = rw (length_push before s)
          (place-next c.args.most c.args.blocks (length before) is.place c.loop-first-test.true goes);
      even = even-push c.args.most c.args.blocks before s is.even
          (even-next c.args.most c.args.blocks (length before) is.place c.loop-first-test.true goes s.group);
      fresh = All-push IsFresh before s is.fresh refl;
      short = All-push (IsShort c.args.most) before s is.short (omega (arith, ends, far));
      grouped = rw c.as_slice.ensures.value at (c.group_of_next-group.ensures s refl refl);
    })
