use Rattle.std.proofs.Common.{◌+◌, ◌-◌, ap, arith, refl, rules}
use Rattle.sound_terms.specs.declared.Span.{Span}
use Rattle.std.proofs.lemmas.Result.{err_from_is_err_and}
use Rattle.riff.proofs.Walking.{walked_step, walked_cut, found_again}
use Rattle.riff.proofs.found.Found.take_in.Goals as goal

pub returns-clause-walked : goal.returns-clause-walked
returns-clause-walked c = λ file sizes before is_head told.
    let contents : Span = record { at = c.args.end - (c.args.left - 8); length = c.args.size } in
    walked_step file sizes c.args.end c.args.left _ before c.args.head.now contents _ c.saturating_sub-2.result
    c.requires.room is_head told refl
    (λ known. found_again _ _ _ _ (c.in_ok-add.ensures.added before.before known)) (ap (λ n. n + 1) c.add.ensures.seen)
    (omega arith)

pub returns-in_err-add-clause-walked : goal.returns-in_err-add-clause-walked
returns-in_err-add-clause-walked c = λ file sizes before is_head told.
    let contents : Span = record { at = c.args.end - (c.args.left - 8); length = c.args.size } in
    let cut =
    walked_cut file sizes c.args.end c.args.left _ before c.args.head.now contents c.requires.room is_head told refl
    (λ known. c.in_err-add.ensures.refused before.before known) in
    let is_cut = c.in_err-add.ensures.cut in
    let p = err_from_is_err_and c.from_residual.result c.from_residual.ensures.1 in rw (p.1, p.2) (search (rules, cut))
