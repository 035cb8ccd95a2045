use Rattle.std.proofs.lemmas.Result.{err_from_is_err_and}
use Rattle.consolidate.proofs.Answered.{media_done, media_failed, media_unopened}
use Rattle.consolidate.proofs.copy_call.copy_list.Goals as goal

pub returns-in_err-checked : goal.returns-in_err-checked
returns-in_err-checked g c = let p = err_from_is_err_and c.from_residual.result c.from_residual.ensures.1 in
    rw (p.1, p.2) (media_unopened g.S.Shelf g.B.Bench _ _ c.args.list.now c.args.request.keeping.handle _
    c.in_err-checked.field-0.0 (g.met.B.Bench.only_now c.args.bench.now) c.in_err-checked.ensures)

pub returns-in_err-copied : goal.returns-in_err-copied
returns-in_err-copied g c =
    let p = err_from_is_err_and c.from_residual-in_err-copied.result c.from_residual-in_err-copied.ensures.1 in
    let opened = c.in_ok-checked.ensures in
    rw (p.1, p.2) (media_failed g.S.Shelf g.B.Bench _ _ c.args.list.now c.args.request.keeping.handle _ _ _ _ _ _
    opened.accepted opened.spelt opened.only_reads _ c.in_err-copied.ensures)

pub returns : goal.returns
returns g c = let opened = c.in_ok-checked.ensures in
    media_done g.S.Shelf g.B.Bench _ _ c.args.list.now c.args.request.keeping.handle _ _ _ _ _ _ opened.accepted
    opened.spelt opened.only_reads _ opened.spelled opened.notices c.in_ok-copied.ensures
