use Rattle.std.proofs.Common.{◌≡◌, ◌<◌, length, get_or, refl}
use Rattle.std.specs.Prelude.{Some, slice_get}
use Rattle.std.proofs.lemmas.Option.{slice_get_read}
use Rattle.passes.proofs.Index.{clear_is_index}
use Rattle.passes.proofs.marks.Marks.clear.Goals as goal

pub invariant_of-self : goal.invariant_of-self
invariant_of-self c =
    let marks = c.self.inside.marks.items in
    let below : c.args.position < length marks = rw c.self.view_is c.requires in
    let read : Some c.in-Some.end ≡ get_or marks c.args.position (Some c.in-Some.end) =
    rw c.in-Some.is at c.index.ensures in
    let had : slice_get marks c.args.position ≡ Some (Some c.in-Some.end) = slice_get_read marks _ _ _ refl below read in
    clear_is_index marks _ _ c.in-Some.end c.args.position c.self.invariant had c.remove.ensures.updates.0 below
