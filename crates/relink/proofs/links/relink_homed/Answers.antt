use Rattle.std.proofs.Common.{List, ◌≤◌, length, arith, subst}
use Rattle.sound_terms.specs.declared.piece.Piece.{Piece}
use Rattle.relink.proofs.Placing.{length-placed_of}
use Rattle.relink.proofs.Whole.{all_used, linkable, no_fault, same_mix}
use Rattle.relink.proofs.links.relink_homed.Goals as goal

pub linked-requires-clause-few_groups : goal.linked-requires-clause-few_groups
linked-requires-clause-few_groups c =
    let few : length c.groups.result.now ≤ 32767 = omega (arith, c.if-groups-gt-MOST_ENTRIES.false) in
    rw (length-placed_of c.args.intervals.now c.groups.ensures.sound.groups_ok)
    (subst (λ (gs : List (List Piece)). length gs ≤ 32767) c.groups.ensures.lent few)

pub linked-requires-clause-linkable : goal.linked-requires-clause-linkable
linked-requires-clause-linkable c =
    linkable c.args.intervals.now c.args.runs.now.homes c.requires.runs.0 c.args.runs.now.runs
    c.as_slice.ensures.sound.homes_ok c.as_slice.ensures.sound.apart c.requires.runs.1 c.requires.at_home
    c.groups.ensures.sound

pub returns-clause-same_mix : goal.returns-clause-same_mix
returns-clause-same_mix c =
    same_mix c.args.intervals.now c.args.runs.now.homes c.requires.runs.0 c.args.runs.now.runs
    c.as_slice.ensures.sound.homes_ok c.as_slice.ensures.sound.apart c.requires.runs.1 c.requires.at_home
    c.groups.ensures.sound c.requires.whole

pub returns-clause-no_fault : goal.returns-clause-no_fault
returns-clause-no_fault c =
    no_fault c.args.intervals.now c.args.runs.now.homes c.requires.runs.0 c.args.runs.now.runs
    c.as_slice.ensures.sound.homes_ok c.as_slice.ensures.sound.apart c.requires.runs.1 c.requires.at_home
    c.groups.ensures.sound

pub returns-clause-all_used : goal.returns-clause-all_used
returns-clause-all_used c =
    all_used c.args.intervals.now c.args.runs.now.homes c.requires.runs.0 c.args.runs.now.runs
    c.as_slice.ensures.sound.homes_ok c.as_slice.ensures.sound.apart c.requires.runs.1 c.requires.at_home
    c.groups.ensures.sound

pub returns-then-groups-gt-MOST_ENTRIES-clause-same_mix : goal.returns-then-groups-gt-MOST_ENTRIES-clause-same_mix
returns-then-groups-gt-MOST_ENTRIES-clause-same_mix c =
    same_mix c.args.intervals.now c.args.runs.now.homes c.requires.runs.0 c.args.runs.now.runs
    c.as_slice.ensures.sound.homes_ok c.as_slice.ensures.sound.apart c.requires.runs.1 c.requires.at_home
    c.groups.ensures.sound c.requires.whole

pub returns-then-groups-gt-MOST_ENTRIES-clause-no_fault : goal.returns-then-groups-gt-MOST_ENTRIES-clause-no_fault
returns-then-groups-gt-MOST_ENTRIES-clause-no_fault c =
    no_fault c.args.intervals.now c.args.runs.now.homes c.requires.runs.0 c.args.runs.now.runs
    c.as_slice.ensures.sound.homes_ok c.as_slice.ensures.sound.apart c.requires.runs.1 c.requires.at_home
    c.groups.ensures.sound

pub returns-then-groups-gt-MOST_ENTRIES-clause-all_used : goal.returns-then-groups-gt-MOST_ENTRIES-clause-all_used
returns-then-groups-gt-MOST_ENTRIES-clause-all_used c =
    all_used c.args.intervals.now c.args.runs.now.homes c.requires.runs.0 c.args.runs.now.runs
    c.as_slice.ensures.sound.homes_ok c.as_slice.ensures.sound.apart c.requires.runs.1 c.requires.at_home
    c.groups.ensures.sound
