use Rattle.std.proofs.Common.{◌≡◌, ◌+◌, ◌*◌, ◌≤◌, length, subst, sym, ap, ◌∙◌, IsTrue}
use Rattle.std.specs.Result.{IfOk}
use Rattle.facts.specs.Tests.{same_some}
use Rattle.work_terms.specs.Disk.{Files}
use Rattle.riff.specs.Found.{EndInside}
use Rattle.riff.specs.Walk.{chunks_view}
use Rattle.riff.proofs.wave.walk.Goals as goal

pub returns-clause-seen : goal.returns-clause-seen
returns-clause-seen g c = λ honest file there.
    let kept = c.in_ok-end.ensures.only_reads in
    let opened = c.in_ok-form.ensures.only_reads in
    let found = c.in_ok-end.ensures.found honest in
    let whole : length file ≡ c.in_ok-end.end = ap length (same_some (sym there ∙ found.1)) ∙ found.2 in
    let honest' = subst IsTrue (sym kept.honest_same) honest in
    let there' = ap (λ (files : Files). files c.args.name.now) kept.same ∙ there in
    c.walk_form.ensures.seen (subst IsTrue (sym opened.honest_same) honest') file
    (ap (λ (files : Files). files c.args.name.now) opened.same ∙ there') whole
    (c.in_ok-form.ensures.opens honest' file there' whole) tt

pub returns-clause-few : goal.returns-clause-few
returns-clause-few g c = λ honest file there.
    let found = c.in_ok-end.ensures.found honest in
    let whole : length file ≡ c.in_ok-end.end = ap length (same_some (sym there ∙ found.1)) ∙ found.2 in
    subst (λ n. IfOk c.walk_form.result (λ chunks. 8 * chunks.seen + 12 ≤ n)) (sym whole) c.walk_form.ensures.few

pub returns-clause-inside : goal.returns-clause-inside
returns-clause-inside g c = λ honest file there.
    let found = c.in_ok-end.ensures.found honest in
    let whole : length file ≡ c.in_ok-end.end = ap length (same_some (sym there ∙ found.1)) ∙ found.2 in
    subst (λ n. IfOk c.walk_form.result (λ chunks. EndInside n (chunks_view chunks))) (sym whole)
    c.walk_form.ensures.ends
