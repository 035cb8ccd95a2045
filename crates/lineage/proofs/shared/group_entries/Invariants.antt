use Rattle.std.proofs.Common.{◌≡◌, map, take}
use Rattle.std.specs.Prelude.{option_copied}
use Rattle.lineage.specs.Groups.{EndsWith, grouped_in, groups_of, shown_in}
use Rattle.lineage.proofs.Grouping.{AreThere}
use Rattle.lineage.proofs.shared.group_entries.Given as goal

-- The entries so far.
abbrev pub invariant-loop-entry : goal.invariant-loop-entry
invariant-loop-entry l =
    let done = take l.entry-index l.entries in
    let given = l.lined-inside.entries.items in
    (shown_in l.grouped ≡ groups_of given done)
    × (l.grouped.entries.items ≡ map (grouped_in (groups_of given done) given) done)
    × AreThere given (groups_of given done) done
    × EndsWith given (option_copied l.before) l.grouped
