use Rattle.std.proofs.Common.{subst, sym, ap, ◌∙◌, IsTrue}
use Rattle.std.proofs.lemmas.Result.{err_from_is_err_and}
use Rattle.work_terms.specs.Disk.{Files}
use Rattle.riff.specs.Walk.{chunks_view}
use Rattle.wavread.proofs.Opened.{walk_refused, format_refused_file, sound_told_file, facts_same}
use Rattle.wavread.proofs.sound_file.open.Goals as goal

pub returns-in_err-chunks-clause-exact : goal.returns-in_err-chunks-clause-exact
returns-in_err-chunks-clause-exact g c = λ honest.
    let refused =
    walk_refused c.args.name.now (g.S.Shelf.stored c.args.shelf.now c.args.name.now) c.in_err-chunks.field-0.0
    (c.in_err-chunks.ensures.exact honest) in
    let p = err_from_is_err_and c.from_residual.result c.from_residual.ensures.1 in
    rw (p.1, p.2) refused

pub returns-in_err-format-clause-exact : goal.returns-in_err-format-clause-exact
returns-in_err-format-clause-exact g c = λ honest.
    let kept = c.in_ok-chunks.ensures.only_reads in
    let refused =
    format_refused_file c.args.name.now (g.S.Shelf.stored c.args.shelf.now c.args.name.now)
    (chunks_view c.in_ok-chunks.chunks) c.in_err-format.field-0.0
    (c.in_ok-chunks.ensures.exact honest)
    (λ file there. c.in_err-format.ensures.exact (subst IsTrue (sym kept.honest_same) honest) file
    (ap (λ (files : Files). files c.args.name.now) kept.same ∙ there)) in
    let p = err_from_is_err_and c.from_residual-in_err-format.result c.from_residual-in_err-format.ensures.1 in
    rw (p.1, p.2) refused

pub returns-clause-exact : goal.returns-clause-exact
returns-clause-exact g c = λ honest.
    let name = c.args.name.now in
    let walk = c.in_ok-chunks.ensures in
    let read = c.in_ok-format.ensures in
    let honest' = subst IsTrue (sym walk.only_reads.honest_same) honest in
    let honest'' = subst IsTrue (sym read.only_reads.honest_same) honest' in
    sound_told_file name (g.S.Shelf.stored c.args.shelf.now name) (chunks_view c.in_ok-chunks.chunks)
    c.in_ok-format.format c.of.result (walk.exact honest)
    (λ file there. read.exact honest' file (ap (λ (files : Files). files name) walk.only_reads.same ∙ there))
    (λ file there.
    let there' = ap (λ (files : Files). files name) walk.only_reads.same ∙ there in
    let there'' = ap (λ (files : Files). files name) read.only_reads.same ∙ there' in
    let tells = c.in_ok-texts.ensures.texts honest'' file there'' (walk.inside honest file there).bext in
    let copied = c.in_ok-name.ensures.same in
    let made = rw copied at c.of.ensures in
    facts_same name (chunks_view c.in_ok-chunks.chunks) c.in_ok-format.format _ c.in_ok-texts.texts tells ∙ sym made)
