use Rattle.std.proofs.Common.{◌≡◌, ◌∙◌, List, Ok, Err, Result, ap}
use Rattle.std.specs.Prelude.{OnOk}
use Rattle.sound_terms.specs.declared.piece.Home.{Home}
use Rattle.sound_terms.specs.declared.piece.Run.{Run}
use Rattle.list_terms.specs.BoundHomes.{homes_of}
use Rattle.mediaset.specs.Runs.{homed}
use Rattle.relink.proofs.checked.relink.Goals as goal

on_ok : {X E : Type 0} {P : Type 0} (result : Result X E) → P → OnOk result P
on_ok (Ok x) p = p
on_ok (Err e) p = tt

both : {homes other : List Home} {runs same : List Run} → homes ≡ other → runs ≡ same → homed homes runs ≡ homed other same
both {other = other} {runs = runs} one two = ap (λ homes. homed homes runs) one ∙ ap (homed other) two

pub returns-clause-all_used : goal.returns-clause-all_used
returns-clause-all_used c =
    let kept : c.with-kept.result ≡ homed (homes_of c.args.checked.now.bound) c.args.runs.now =
    c.with-kept.ensures ∙ both (c.in_ok-homes.ensures ∙ ap homes_of c.bound.ensures) (c.in_ok-to_vec.ensures.items_if_clones_equal (λ x y h. h)) in
    on_ok c.relink_homed.result (rw kept at c.relink_homed.ensures.all_used)

pub returns-clause-same_mix : goal.returns-clause-same_mix
returns-clause-same_mix c =
    let kept : c.with-kept.result ≡ homed (homes_of c.args.checked.now.bound) c.args.runs.now =
    c.with-kept.ensures ∙ both (c.in_ok-homes.ensures ∙ ap homes_of c.bound.ensures) (c.in_ok-to_vec.ensures.items_if_clones_equal (λ x y h. h)) in
    on_ok c.relink_homed.result (rw kept at c.relink_homed.ensures.same_mix)

pub returns-clause-no_fault : goal.returns-clause-no_fault
returns-clause-no_fault c =
    let kept : c.with-kept.result ≡ homed (homes_of c.args.checked.now.bound) c.args.runs.now =
    c.with-kept.ensures ∙ both (c.in_ok-homes.ensures ∙ ap homes_of c.bound.ensures) (c.in_ok-to_vec.ensures.items_if_clones_equal (λ x y h. h)) in
    on_ok c.relink_homed.result (rw kept at c.relink_homed.ensures.no_fault)
