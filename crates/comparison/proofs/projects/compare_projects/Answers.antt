use Rattle.std.proofs.Common.{ℕ, ap, sym, subst, arith, rules}
use Rattle.std.proofs.lemmas.Int.{to_z-of_z}
use mir.Syntax.{w64}
use mir.Val.{SFits}
use Rattle.list_terms.specs.Heard.{project_mix}
use Rattle.list_terms.specs.Project.{ListProject}
use Rattle.comparison.specs.Whole.{DifferAt}
use Rattle.comparison.proofs.Outside.{are_alike, differ}
use Rattle.comparison.proofs.projects.compare_projects.Goals as goal

pub returns-in-Some-clause-compared : goal.returns-in-Some-clause-compared
returns-in-Some-clause-compared g c = λ honest sure.
    let difference = c.in-Some.difference in
    let found =
    differ c.args.selection.now (g.S.Shelf.stored c.args.first_shelf.now) (g.T.Shelf.stored c.args.second_shelf.now)
    c.args.first.now.project c.args.second.now.project c.args.first.now.bound c.args.second.now.bound
    _ _ (ap (λ (p : ListProject). p.events) c.project.ensures.lent)
    (ap (λ (p : ListProject). p.events) c.project-2.ensures.lent) c.compared_in-extent.ensures.whole _ _ _
    c.compared_in-extent.ensures.from c.compared_in-extent.ensures.to c.compared_in-extent.ensures.channels
    c.in_ok-difference.field-0 (c.in_ok-difference.ensures.compared honest sure) difference c.in-Some.is in
    let time = c.time_of.ensures (omega (arith, found.1, c.get.ensures.samples, c.get.ensures.in_day)) in
    let fits : SFits w64 difference.first = search rules in
    let other_fits : SFits w64 difference.second = search rules in
    let mix = project_mix (g.S.Shelf.stored c.args.first_shelf.now) c.args.first.now.project c.args.first.now.bound in
    let mixed = project_mix (g.T.Shelf.stored c.args.second_shelf.now) c.args.second.now.project c.args.second.now.bound in
    rw (to_z-of_z w64 difference.first fits, to_z-of_z w64 difference.second other_fits)
    (subst (λ (at : ℕ). DifferAt c.args.selection.now mix mixed at difference.channel difference.first difference.second)
    (sym time) found.0)

pub returns-in-None-clause-compared : goal.returns-in-None-clause-compared
returns-in-None-clause-compared g c = λ honest sure.
    are_alike c.args.selection.now (g.S.Shelf.stored c.args.first_shelf.now) (g.T.Shelf.stored c.args.second_shelf.now)
    c.args.first.now.project c.args.second.now.project c.args.first.now.bound c.args.second.now.bound
    _ _ (ap (λ (p : ListProject). p.events) c.project.ensures.lent)
    (ap (λ (p : ListProject). p.events) c.project-2.ensures.lent) c.compared_in-extent.ensures.whole _ _ _
    c.compared_in-extent.ensures.from c.compared_in-extent.ensures.to c.compared_in-extent.ensures.channels
    c.in_ok-difference.field-0 (c.in_ok-difference.ensures.compared honest sure) c.in-None.is
