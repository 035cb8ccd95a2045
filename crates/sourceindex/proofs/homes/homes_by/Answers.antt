use Rattle.std.proofs.Common.{◌∙◌, map, Result, Ok, Err, IfOk, ap, zero-add, sym, unwrap_or}
use Rattle.list_terms.specs.BoundHomes.{home_from, no_home}
use Rattle.sourceindex.proofs.HomeTable.{table_from}
use Rattle.sourceindex.proofs.homes.homes_by.Goals as goal

where_ok : {X E : Type 0} (r : Result X E) (P Q : X → Type 0) → ((x : X) → P x → Q x) → IfOk r P → IfOk r Q
where_ok (Ok x) P Q then holds = then x holds
where_ok (Err e) P Q then holds = holds

pub returns : goal.returns
returns c = λ opened many.
    let least = c.in_ok-least.ensures in
    where_ok c.filled.result _ _
    (λ homes filled. filled ∙ ap (map (λ h. unwrap_or h no_home)) c.as_slice.ensures.value
    ∙ table_from c.args.indexes.now 0 c.in_ok-least.least.items opened (many ∙ sym least.count)
    (λ i below. least.least i below ∙ ap (home_from 0 c.args.indexes.now) (sym (zero-add i)))) c.filled.ensures
