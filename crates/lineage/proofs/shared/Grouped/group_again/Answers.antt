use Rattle.std.proofs.Common.{◌≡◌, ◌-◌, Some, length, slice_get, sym, tests, rules}
use Rattle.lineage.specs.Groups.{EndsWith}
use Rattle.lineage.specs.Played.{numbered}
use Rattle.lineage.proofs.Grouping.{again_as}
use Rattle.lineage.proofs.shared.Grouped.group_again.Goals as goal

pub returns : goal.returns
returns c = λ given ends.
    let last = c.in_ok-before.field-0.now in
    let entry = c.args.entry.now in
    let grouped = c.args.self.now in
    let same : entry ≡ numbered entry.number last = c.plays_as.ensures (search (tests, rules)) in
    let is : EndsWith given (Some last) grouped = rw (c.in_ok-before.was) at ends in
    let found : slice_get grouped.entries.items (length grouped.entries.items - 1) ≡ Some c.in_ok-last.field-0.now =
    sym (rw (c.deref.ensures.value) at c.in_ok-last.ensures.value) in
    again_as given grouped last entry c.in_ok-last.field-0.now.group same (is c.in_ok-last.field-0.now found)
