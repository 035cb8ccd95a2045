use Rattle.std.specs.Prelude.{◌||◌}
use Rattle.passes.specs.Ends.{end_before, follows, is_end}
use Rattle.passes.proofs.Regrouped.{fall_follows, first_either, first_same, flat_follows, rise_follows}
use Rattle.passes.proofs.regroup.first_before.Goals as goal

pub returns-in-Rise : goal.returns-in-Rise
returns-in-Rise c = rise_follows c.args.piece.now c.in-Rise.offset c.in-Rise.den c.in-Rise.is c.args.ends.now

pub returns-in-Flat : goal.returns-in-Flat
returns-in-Flat c =
    let piece = c.args.piece.now in
    let first = rw c.before-in-Flat.ensures at c.first.ensures in
    first_same (is_end (end_before 0 piece)) (follows piece) (flat_follows piece c.in-Flat.is) c.args.ends.now
    c.first.result first

pub returns-in-Fall : goal.returns-in-Fall
returns-in-Fall c =
    let piece = c.args.piece.now in
    let rise = rw c.before-in-Fall.ensures at c.first-rise.ensures in
    let flat = rw c.before-in-Fall-2.ensures at c.first-flat.ensures in
    let either = first_either (is_end (end_before 0 piece)) (is_end (end_before 1 piece)) c.args.ends.now
    c.first-rise.result c.first-flat.result rise flat in
    rw c.earlier.ensures (first_same (λ mark. is_end (end_before 0 piece) mark || is_end (end_before 1 piece) mark)
    (follows piece)
    (fall_follows piece c.in-Fall.offset c.in-Fall.den c.in-Fall.is) c.args.ends.now _ either)
