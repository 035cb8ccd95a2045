use Rattle.std.proofs.Common.{◌≡◌, ◌∙◌, ◌++◌, ◌∷◌, [], List, ap, get_or, map, rules, subst, sym, take}
use Rattle.std.proofs.lemmas.List.{take_all, take_more}
use Rattle.lineage.specs.declared.played.Played.{Played}
use Rattle.lineage.specs.Groups.{group_of, grouped_in, groups_of, is_same, shown_in}
use Rattle.indexmap.specs.IndexSet.{insert_key}
use Rattle.lineage.specs.Lines.{PlayAlike}
use Rattle.lineage.proofs.Grouping.{ends_with_put, entry_step, grouped_alike}
use Rattle.lineage.proofs.shared.group_entries.Goals as goal

pub loop-entry-init : goal.loop-entry-init
loop-entry-init c = (search rules, search rules, tt, tt)

pub loop-entry-preserved : goal.loop-entry-preserved
loop-entry-preserved c =
    let none : Played = record { number = 0; file = 0; frame = 0; first = 0; start = 0; end = 0; dest = 0; last = 0 } in
    let given = c.lined.inside.entries.items in
    let entries = c.args.entries.now in
    let k = c.loop-entry.entry-index in
    let before = c.loop-entry.invariant in
    let entry = get_or entries k none in
    let old = c.loop-entry.grouped in
    let new = c.put_entry.new.grouped in
    let put =
    subst (λ (es : List Played). shown_in new ≡ insert_key is_same (shown_in old) (group_of es entry))
    (sym c.lined.view_is) c.in_ok-put_entry.ensures.groups in
    let added =
    subst (λ (es : List Played). new.entries.items ≡ old.entries.items ++ grouped_in (shown_in new) es entry ∷ [])
    (sym c.lined.view_is) c.in_ok-put_entry.ensures.entries in
    let step =
    entry_step given (take k entries) entry (shown_in old) (shown_in new) old.entries.items new.entries.items before.0
    before.1 before.2 put added in
    rw (take_more entries k none c.loop-entry-test.true)
    (step.0, step.1, step.2, ends_with_put given entry old.entries.items (shown_in old) new put added)

pub returns : goal.returns
returns c =
    let entries = c.args.entries.now in
    let lined = c.lined.inside.entries.items in
    let before = c.loop-entry.invariant in
    let all : take c.loop-entry.entry-index entries ≡ entries =
    take_all c.loop-entry.entry-index entries c.loop-entry-test.false in
    let alike : PlayAlike lined c.args.given.now =
    subst (λ (es : List Played). PlayAlike es c.args.given.now) (sym c.lined.view_is) c.in_ok-lined.ensures in
    grouped_alike c.args.given.now lined entries c.loop-entry.grouped alike (record {
      groups_are = before.0 ∙ ap (groups_of lined) all;
      entries_are =
          before.1 ∙ ap (λ (done : List Played). map (grouped_in (groups_of lined done) lined) done) all;
    })
