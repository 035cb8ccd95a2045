use Rattle.std.proofs.Common.{Bool, false, ◌∙◌, refl, sym}
use Rattle.list_terms.specs.Heard.{sounds_of}
use Rattle.provenance.specs.Asked.{asked_of}
use Rattle.consolidate.specs.Approaches.{events_by}
use Rattle.consolidate.specs.Own.{IsOfMedia}
use Rattle.consolidate.proofs.RenderWorks.{by_handing}
use Rattle.consolidate.proofs.Answered.{asked_some, called, copied, fresh, no_board, not_planned, refused, uncopied}
use Rattle.consolidate.specs.declared.fault.Fault.TheVariants as fault
use Rattle.consolidate.proofs.copy_call.copy_project.Goals as goal

pub returns-in-Err : goal.returns-in-Err
returns-in-Err g c = let is = c.of_consolidation.ensures in
    refused g.S.Shelf g.B.Bench c.args.request.handing _ _ c.of_consolidation.result (rw is.refusal)
    (λ honest work is_work. rw is.refusal (c.in-Err.ensures.refusals honest work is_work))
    (λ text. is.own _ _ text) is.first (not_planned g.S.Shelf g.B.Bench (sounds_of c.args.checked.bound)
    c.in-Err.fault _ (g.met.B.Bench.only_now c.args.bench.now) is.names is.device c.in-Err.ensures.only_reads)

pub returns-in-Err-execution_of : goal.returns-in-Err-execution_of
returns-in-Err-execution_of g c = rw c.in-Err-execution_of.ensures.memory
    (refused g.S.Shelf g.B.Bench c.args.request.handing _ _ fault.BoardMemory refl
    (λ honest work is_work. rw (c.in-Ok.ensures.refusals honest work is_work) tt) (λ text. tt) (λ text files. tt)
    (no_board g.S.Shelf g.B.Bench (g.met.B.Bench.only_now c.args.bench.now) c.in-Ok.ensures.only_reads))

pub returns-in-Ok-hand_out : goal.returns-in-Ok-hand_out
returns-in-Ok-hand_out g c =
    let planned = c.in-Ok.ensures in
    let whole = c.outcome-written.ensures in
    let run = c.in-Ok-execution_of.ensures in
    let told = c.in-Ok-hand_out.ensures in
    copied g.S.Shelf g.B.Bench c.args.request.handing _ _ c.in-Ok.consolidation _ _ _ _ _ _ planned.planned
    planned.there planned.fits planned.refusals planned.only_reads whole.value whole.names
    (fresh c.in-Ok.consolidation run.board run.undone)
    (called (events_by c.args.request.handing) run.work run.board run.idle told.executed)
    (λ rounds. told.reported rounds ∙ told.finished rounds run.rest (run.idle 1))
    (λ text. whole.same_sound text _ _ _ _ _ _ _) (whole.consolidated _ _ _ _ _ _ _ _)

pub returns-in-Err-hand_out : goal.returns-in-Err-hand_out
returns-in-Err-hand_out g c =
    let planned = c.in-Ok.ensures in
    let whole = c.outcome-written.ensures in
    let run = c.in-Ok-execution_of.ensures in
    let told = c.in-Err-hand_out.ensures in
    let of = c.of_media.ensures in
    let is_asked = c.is_some.ensures ∙ sym (asked_some asked_of c.args.request.report) in
    uncopied g.S.Shelf g.B.Bench c.args.request.handing _ _ c.in-Ok.consolidation _ _ _ _ _ _ planned.planned
    planned.there planned.fits planned.refusals planned.only_reads whole.value whole.names
    (fresh c.in-Ok.consolidation run.board run.undone) c.of_media.result
    (called (events_by c.args.request.handing) run.work run.board run.idle told.executed)
    (rw (whole.value, is_asked) at of.reported) of.due (λ text. rw is_asked at (by_handing c.args.request.handing
    (λ (given : Bool). IsOfMedia c.is_some.result given text c.of_media.result)
    (λ rounds. of.own false text (λ e. told.memory rounds (rw e refl)) (λ e. told.job_memory rounds (rw e refl)))
    (of.scheduled text))) of.first (rw (whole.value, is_asked) at of.named)
    (rw (whole.value, is_asked) at of.before_list) (rw (whole.value, is_asked) at of.before_report)
