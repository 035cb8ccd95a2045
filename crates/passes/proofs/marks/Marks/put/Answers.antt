use Rattle.std.proofs.Common.{◌≡◌}
use Rattle.std.specs.Prelude.{None, Some, slice_get}
use Rattle.std.proofs.lemmas.Option.{slice_get_within}
use Rattle.passes.proofs.Index.{put_is_index}
use Rattle.passes.proofs.marks.Marks.put.Goals as goal

pub invariant_of-self-2 : goal.invariant_of-self-2
invariant_of-self-2 c =
    let marks = c.self.inside.marks.items in
    let free : slice_get marks c.args.position ≡ Some None = rw c.self.view_is c.requires in
    put_is_index marks _ _ c.args.end c.args.position c.self.invariant free c.in_ok-insert.ensures.updates.0
    (slice_get_within marks c.args.position None free)
