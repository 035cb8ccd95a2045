use Rattle.std.proofs.Common.{[], rules, sym}
use Rattle.std.proofs.lemmas.List.{length-map, map-set}
use Rattle.passes.specs.Ends.{group_end}
use Rattle.passes.proofs.JoinedCuts.{on_ok}
use Rattle.passes.proofs.Regrouped.{end-append, follows_there, grouped_there}
use Rattle.passes.proofs.regroup.append.Goals as goal

pub index_mut-requires : goal.index_mut-requires
index_mut-requires c =
    let there = follows_there c.args.group c.args.output.now.groups.items _ c.requires.ends c.args.position []
    c.requires.first in
    search (rules, there.0)

pub append-requires : goal.append-requires
append-requires c =
    let there = follows_there c.args.group c.args.output.now.groups.items _ c.requires.ends c.args.position
    c.index_mut.result.now c.requires.first in
    rw c.index_mut.ensures.value there.1

pub set-requires : goal.set-requires
set-requires c =
    let there = follows_there c.args.group c.args.output.now.groups.items _ c.requires.ends c.args.position []
    c.requires.first in
    rw (c.requires.ends, length-map) there.0

pub returns-clause-ends : goal.returns-clause-ends
returns-clause-ends c =
    let there = follows_there c.args.group c.args.output.now.groups.items _ c.requires.ends c.args.position
    c.index_mut.result.now c.requires.first in
    let end = end-append c.args.group c.index_mut.result.now (rw (← c.index_mut.ensures.value) at there.1) in
    let same = map-set group_end c.args.output.now.groups.items c.args.position c.append.new.self in
    rw (same, c.append.ensures, end, ← c.requires.end, ← c.requires.ends) c.set.ensures

pub returns-clause-put : goal.returns-clause-put
returns-clause-put c =
    let put = grouped_there c.args.group c.args.output.now.groups.items _ c.requires.ends c.args.position
    c.index_mut.result.now c.requires.first in
    on_ok c.set.result _ (rw (c.append.ensures, c.index_mut.ensures.value) (sym put))
