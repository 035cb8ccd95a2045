use Rattle.std.proofs.Common.{rules, ◌∙◌, None, refl, sym}
use Rattle.job_terms.specs.Workers.{CantMark, CantWrite, Delivers, IsStale}
use Rattle.execution.specs.Marking.{done_of}
use Rattle.execution.specs.Worlds.{state_of}
use Rattle.execution.proofs.Changes.{alike-after, current-undone, done-accepted}
use Rattle.execution.proofs.Firsts.{mark-is, raised, worker-hand}
use Rattle.execution.proofs.MarkSteps.{marks-placed, marks-quiet, runs-ended}
use Rattle.execution.proofs.Notes.{notes-done}
use Rattle.execution.proofs.steps.deliver.Goals as goal

pub returns-then-not-is_current-clause-step : goal.returns-then-not-is_current-clause-step
returns-then-not-is_current-clause-step g c honest sources shelf = IsStale c.in-Some.ticket _
    (worker-hand _ _ _ c.worker.view_is c.in-Some.is c.if-not-worker.false) (sym c.if-not-is_current.ensures) refl refl

pub returns-in-Ok-clause-step : goal.returns-in-Ok-clause-step
returns-in-Ok-clause-step g c honest sources shelf = Delivers c.in-Some.ticket _ (g.B.Bench.stored c.write.new.bench)
    (worker-hand _ _ _ c.worker.view_is c.in-Some.is c.if-not-worker.false)
    (sym c.is_current.ensures ∙ c.if-not-is_current.false)
    (rw c.deref.ensures.value at (c.in-Ok.ensures.placed honest))
    (rw (c.accept.ensures.done, c.in-Ok.ensures.only_writes.cause.left tt)) refl

pub returns-in-Err-Mark-clause-step : goal.returns-in-Err-Mark-clause-step
returns-in-Err-Mark-clause-step g c honest sources shelf =
    let placed = rw (c.in-Err-Mark.field-0-is, c.deref.ensures.value) at (c.in-Err-Mark.ensures.placed honest) in
    CantMark c.in-Some.ticket _ (g.B.Bench.stored c.write.new.bench) (g.B.Bench.failures c.write.new.bench) placed.0
    (worker-hand _ _ _ c.worker.view_is c.in-Some.is c.if-not-worker.false)
    (sym c.is_current.ensures ∙ c.if-not-is_current.false)
    placed.1 (raised c.in-Err-Mark.ensures.only_writes.cause tt)
    (rw c.accept-in-Err-Mark.ensures.done) refl

pub returns-in-Err-Write-clause-step : goal.returns-in-Err-Write-clause-step
returns-in-Err-Write-clause-step g c honest sources shelf = CantWrite c.in-Some.ticket _
    (g.B.Bench.stored c.write.new.bench) (g.B.Bench.failures c.write.new.bench)
    (worker-hand _ _ _ c.worker.view_is c.in-Some.is c.if-not-worker.false)
    (sym c.is_current.ensures ∙ c.if-not-is_current.false)
    (rw (c.in-Err-Write.field-0-is, c.deref.ensures.value) at (c.in-Err-Write.ensures.placed honest))
    (raised c.in-Err-Write.ensures.only_writes.cause tt) (c.failed.ensures.step _ _ _ _) refl

pub returns-in_default-clause-marks : goal.returns-in_default-clause-marks
returns-in_default-clause-marks g c honest sources right run = marks-quiet
    (g.met.B.Bench.only_now c.args.bench.now) (λ e. cc) (λ k. refl) run

pub returns-then-not-is_current-clause-marks : goal.returns-then-not-is_current-clause-marks
returns-then-not-is_current-clause-marks g c honest sources right run = marks-quiet
    (g.met.B.Bench.only_now c.args.bench.now) (λ e. cc) (λ k. refl) run

pub returns-in-Ok-clause-marks : goal.returns-in-Ok-clause-marks
returns-in-Ok-clause-marks g c honest sources right run =
    let current = sym c.is_current.ensures ∙ c.if-not-is_current.false in
    let made = rw (worker-hand _ _ _ c.worker.view_is c.in-Some.is c.if-not-worker.false) at right in
    let marks = c.in-Ok.ensures.marks honest sources (done_of c.args.board.now) (rw c.deref.ensures.value made)
    (current-undone c.args.board.now c.in-Some.ticket current) c.is_last-last.ensures run in
    marks-placed (done-accepted c.args.board.now _ c.in-Some.ticket current c.accept.ensures.done) marks.goes_on marks

pub returns-in-Err-Mark-clause-marks : goal.returns-in-Err-Mark-clause-marks
returns-in-Err-Mark-clause-marks g c honest sources right run =
    let current = sym c.is_current.ensures ∙ c.if-not-is_current.false in
    let made = rw (worker-hand _ _ _ c.worker.view_is c.in-Some.is c.if-not-worker.false) at right in
    let marks = rw c.in-Err-Mark.field-0-is at (c.in-Err-Mark.ensures.marks honest sources (done_of c.args.board.now)
    (rw c.deref.ensures.value made) (current-undone c.args.board.now c.in-Some.ticket current) c.is_last-last.ensures run) in
    marks-placed (done-accepted c.args.board.now _ c.in-Some.ticket current c.accept-in-Err-Mark.ensures.done)
    marks.goes_on marks

pub returns-in-Err-Write-clause-marks : goal.returns-in-Err-Write-clause-marks
returns-in-Err-Write-clause-marks g c honest sources right run =
    let current = sym c.is_current.ensures ∙ c.if-not-is_current.false in
    let made = rw (worker-hand _ _ _ c.worker.view_is c.in-Some.is c.if-not-worker.false) at right in
    let marks = rw c.in-Err-Write.field-0-is at (c.in-Err-Write.ensures.marks honest sources (done_of c.args.board.now)
    (rw c.deref.ensures.value made) (current-undone c.args.board.now c.in-Some.ticket current) c.is_last-last.ensures run) in
    let alike = alike-after (state_of c.args.board.now (λ _. None) 0 0 0 None) c.in-Some.ticket
    (c.failed.ensures.step (λ _. None) 0 0 0) in
    marks-placed (λ j. sym (alike.done j))
    (runs-ended _ _ _ _ (λ e. cc (rw (mark-is c.failed.result e) at c.failed.ensures.only)) marks.goes_on) marks

pub returns-in-Ok-clause-notes : goal.returns-in-Ok-clause-notes
returns-in-Ok-clause-notes g c sources =
    notes-done (worker-hand _ _ _ c.worker.view_is c.in-Some.is c.if-not-worker.false) refl c.in-Ok.ensures.remains
    (c.in-Ok.ensures.keeps sources) (done-accepted c.args.board.now _ c.in-Some.ticket
    (sym c.is_current.ensures ∙ c.if-not-is_current.false) c.accept.ensures.done)

pub returns-in-Err-Mark-clause-notes : goal.returns-in-Err-Mark-clause-notes
returns-in-Err-Mark-clause-notes g c sources =
    notes-done (worker-hand _ _ _ c.worker.view_is c.in-Some.is c.if-not-worker.false) refl
    c.in-Err-Mark.ensures.remains (c.in-Err-Mark.ensures.keeps sources) (done-accepted c.args.board.now _
    c.in-Some.ticket (sym c.is_current.ensures ∙ c.if-not-is_current.false) c.accept-in-Err-Mark.ensures.done)

pub returns-in-Err-Write-clause-notes : goal.returns-in-Err-Write-clause-notes
returns-in-Err-Write-clause-notes g c sources =
    let alike = alike-after (state_of c.args.board.now (λ _. None) 0 0 0 None) c.in-Some.ticket
    (c.failed.ensures.step (λ _. None) 0 0 0) in search rules
