use Rattle.std.proofs.Common.{[], rules, sym}
use Rattle.std.proofs.lemmas.List.{length-map, map-set}
use Rattle.passes.specs.Ends.{flat_end}
use Rattle.passes.proofs.JoinedCuts.{flat_put, flat_taken, longer_end, on_ok}
use Rattle.passes.proofs.joined_cuts.lengthen.Goals as goal

pub index_mut-requires : goal.index_mut-requires
index_mut-requires c =
    let there = flat_taken c.args.piece c.requires.flat c.args.output.now.groups.items _ c.requires.ends c.args.position []
    c.requires.first in
    search (rules, there.0)

pub lengthen-requires-clause-joins : goal.lengthen-requires-clause-joins
lengthen-requires-clause-joins c =
    let there = flat_taken c.args.piece c.requires.flat c.args.output.now.groups.items _ c.requires.ends c.args.position
    c.index_mut.result.now c.requires.first in
    rw c.index_mut.ensures.value there.1

pub set-requires : goal.set-requires
set-requires c =
    let there = flat_taken c.args.piece c.requires.flat c.args.output.now.groups.items _ c.requires.ends c.args.position []
    c.requires.first in
    rw (c.requires.ends, length-map) there.0

pub returns-clause-ends : goal.returns-clause-ends
returns-clause-ends c =
    let same = map-set flat_end c.args.output.now.groups.items c.args.position c.lengthen.new.self in
    let end = longer_end c.args.piece c.index_mut.result.now c.lengthen.new.self c.lengthen.ensures in
    rw (same, end, ← c.requires.ends, ← c.of.ensures) c.set.ensures

pub returns-clause-put : goal.returns-clause-put
returns-clause-put c =
    let taken = rw c.index_mut.ensures.value at c.lengthen.ensures in
    let put = flat_put c.args.piece c.requires.flat c.args.output.now.groups.items _ c.requires.ends c.args.position
    c.index_mut.result.now c.requires.first c.lengthen.new.self taken in
    on_ok c.set.result _ (sym put)
