use Rattle.std.proofs.Common.{◌∙◌, sym, subst}
use Rattle.sound_terms.specs.Entries.{placed_of}
use Rattle.list_terms.specs.WholeProject.{AreSources}
use Rattle.relink.proofs.NewLists.{are_events, are_sources}
use Rattle.relink.proofs.links.linked.Goals as goal

pub with-requires-clause-sources : goal.with-requires-clause-sources
with-requires-clause-sources c =
    let runs = c.args.runs.now in
    let can = c.in_ok-sources.ensures.sound in
    subst AreSources (sym c.in_ok-sources.ensures.indexes) (are_sources runs.homes runs.runs can.few can.in_day)

pub with-requires-clause-events : goal.with-requires-clause-events
with-requires-clause-events c =
    let runs = c.args.runs.now in
    let can = c.in_ok-sources.ensures.sound in
    let groups = c.as_slice.ensures.value ∙ c.in_ok-groups.ensures.each in
    rw (c.in_ok-events.ensures, groups)
    (are_events runs.homes runs.runs can.few can.apart (placed_of c.args.intervals.now) c.requires.few_groups
    c.requires.linkable)
