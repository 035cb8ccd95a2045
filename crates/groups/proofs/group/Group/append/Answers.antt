use Rattle.std.proofs.Common.{IsTrue}
use Rattle.std.proofs.lemmas.List.Elements.{All-append}
use Rattle.sound_terms.specs.Groups.{IsPiece}
use Rattle.sound_terms.specs.GroupLaws.{IsGroup-append}
use Rattle.sound_terms.specs.Passes.{is_followed_by}
use Rattle.groups.specs.Packed.{pieces_in}
use Rattle.groups.proofs.group.Group.append.Goals as goal

pub invariant_of-self : goal.invariant_of-self
invariant_of-self c =
    let front = c.self.invariant in
    let back = c.later.invariant in
    let follows : IsTrue (is_followed_by (pieces_in c.self.inside.packed) (pieces_in c.later.inside.packed)) =
    rw (c.self.view_is, c.later.view_is) c.requires in
    rw c.followed_by-self-inside.ensures
    (IsGroup-append _ _ front.0 back.0 follows, All-append IsPiece _ _ front.1 back.1)
