use Rattle.std.proofs.Common.{IsTrue, true≢false, sym, ◌∙◌, Bool, List, ℕ, Err, ap, rules, refl, subst}
use Rattle.sound_terms.specs.Render.{Range}
use Rattle.consolidate.specs.Approaches.{IfAgain, are_events, handing_of, is_again}
use Rattle.consolidate.specs.Listed.{DoesListed, fault_of_range, listed_of, marks_in}
use Rattle.consolidate.specs.Own.{IsOfMarks}
use Rattle.consolidate.specs.declared.fault.Fault.TheVariants as fault
use Rattle.consolidate.proofs.Answered.{always_due, found_due, open_due, plan_due, of_marks}
use Rattle.consolidate.proofs.RenderWorks.{clipped, counted, found_in, keeps_unwritten, left_by, listed_now, none_left, refused, unplanned}
use Rattle.consolidate.proofs.Stores.{idle, not_opened}
use Rattle.consolidate.proofs.made.make_listed.Goals as goal

pub returns-in-Err : goal.returns-in-Err
returns-in-Err g c =
    let approach = c.args.request.now.approach in
    let listed = listed_of c.args.request.now c.args.checked.now.project c.args.checked.now.bound in
    let of = c.of_rendering.ensures in
    let does : DoesListed g.S.Shelf g.B.Bench listed c.args.shelf.now c.args.shelf.now c.args.bench.now c.args.bench.now
    (Err c.of_rendering.result) = unplanned g.S.Shelf g.B.Bench _ _ g.met.B.Bench.only_now _ _ of.refusal
    of.no_device (left_by approach (none_left _ (g.B.Bench.may_leave c.args.bench.now))) in
    assumption (
      does,
      keeps_unwritten g.S.Shelf g.B.Bench listed c.args.shelf.now g.met.B.Bench.reads_now approach
          (idle (g.met.B.Bench.only_now c.args.bench.now)),
      λ (right : IfAgain approach (IsTrue (g.B.Bench.honest c.args.bench.now))). plan_due approach c.in-Err.fault
          c.of_rendering.result (fault_of_range listed) (marks_in listed (g.B.Bench.stored c.args.bench.now))
          of.refusal c.in-Err.ensures.refusals,
      of.own (is_again approach) (are_events (handing_of approach)),
      of.first,
    )

pub returns-in-Err-open_marks : goal.returns-in-Err-open_marks
returns-in-Err-open_marks g c =
    let approach = c.args.request.now.approach in
    let listed = listed_of c.args.request.now c.args.checked.now.project c.args.checked.now.bound in
    let opens = c.in-Err-open_marks.ensures in
    let does : DoesListed g.S.Shelf g.B.Bench listed c.args.shelf.now c.args.shelf.now c.args.bench.now
    c.open_marks.new.bench (Err (fault.Marks c.in-Err-open_marks.fault)) = refused (λ late. true≢false (sym late))
    opens.untouched (left_by approach (none_left _ (g.B.Bench.may_leave c.args.bench.now)))
    (not_opened opens.untouched opens.only_reads) in
    assumption (
      does,
      keeps_unwritten g.S.Shelf g.B.Bench listed c.args.shelf.now g.met.B.Bench.reads_now approach
          opens.untouched.moments,
      λ (right : _). open_due c.in-Ok.ensures.refusals approach c.in-Err-open_marks.fault
          (marks_in listed (g.B.Bench.stored c.args.bench.now)) (opens.again refl)
          (found_in listed c.in-Ok.work (g.B.Bench.stored c.args.bench.now) (Err c.in-Err-open_marks.fault)
          c.in-Ok.ensures.planned c.in-Ok.ensures.run (opens.found_as right)),
      λ (text : List ℕ). subst (λ (again : Bool). IsOfMarks again c.in-Err-open_marks.fault)
          (sym (opens.again refl)) (of_marks c.in-Err-open_marks.fault),
    )

pub work_off-requires : goal.work_off-requires
work_off-requires g c = let opens = c.in-Ok-open_marks.ensures in record {
  whole = opens.back.whole;
  jobs = opens.back.jobs;
  fresh = λ none k. rw (opens.unchanged none) (c.in-Ok.ensures.planned.fresh k);
}

pub returns-in-Ok-work_off : goal.returns-in-Ok-work_off
returns-in-Ok-work_off g c =
    let planned = c.in-Ok.ensures.planned in
    let opens = c.in-Ok-open_marks.ensures in
    let off = c.in-Ok-work_off.ensures.off in
    let listed = listed_of c.args.request.now c.args.checked.now.project c.args.checked.now.bound in
    let now = listed_now g.S.Shelf g.B.Bench listed _ _ _ _ planned c.in-Ok.ensures.run _ _ _
    c.in-Ok-open_marks.found _ opens g.met.B.Bench.reads_now off.does off.keeps in
    record {
      does = now.0;
      finished = off.finished;
      report = search rules;
      reads_back = planned.reads_back;
      marked = λ right. c.unwrap_or.ensures ∙ counted _ _ (now.2 right);
      clips = λ rounds honest right. record {
        clips = clipped g.S.Shelf g.B.Bench listed _ _ _ _ planned c.in-Ok.ensures.run c.args.shelf.now
            c.work_off.new.shelf c.work_off.new.bench _ _ _ opens right (off.clips rounds honest);
        start = c.start-start.ensures ∙ ap (λ (r : Range). r.from) planned.range;
        channels = c.rendered-rendered.ensures.channels ∙ ap (λ (r : Range). r.channels) planned.range;
      };
      keeps = now.1;
      refusals = λ right. found_due c.in-Ok.ensures.refusals c.args.request.now.approach _ _ (now.2 right);
      own = λ text. tt;
      in_turn = λ text files. tt;
    }

pub returns-in-Err-work_off : goal.returns-in-Err-work_off
returns-in-Err-work_off g c =
    let told = c.in-Err-work_off.ensures in
    let now = listed_now g.S.Shelf g.B.Bench (listed_of c.args.request.now c.args.checked.now.project
    c.args.checked.now.bound) _ _ _ _ c.in-Ok.ensures.planned c.in-Ok.ensures.run _ _ _ _ _
    c.in-Ok-open_marks.ensures g.met.B.Bench.reads_now told.off.does told.off.keeps in
    assumption (
      now.0,
      now.1,
      λ (right : _). always_due c.in-Ok.ensures.refusals c.args.request.now.approach _ _ (now.2 right)
          c.in-Err-work_off.fault told.due,
      told,
    )
