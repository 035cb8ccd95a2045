use Rattle.std.proofs.Common.{◌≡◌, [], length, rules}
use Rattle.std.specs.Prelude.{None, Some}
use Rattle.std.proofs.lemmas.List.{set_at}
use Rattle.passes.proofs.Index.{last_of_push, push_is_index}
use Rattle.passes.proofs.marks.Marks.push.Goals as goal

pub invariant_of-self-in-Some : goal.invariant_of-self-in-Some
invariant_of-self-in-Some c = rw c.in_ok-push.ensures.items (push_is_index _ _ c.self.invariant)

pub invariant_of-self-in-None : goal.invariant_of-self-in-None
invariant_of-self-in-None c = rw c.in_ok-push.ensures.items (push_is_index _ _ c.self.invariant)

pub put-requires : goal.put-requires
put-requires c =
    let ends : length c.self.inside.marks.items ≡ c.len-position.result = search rules in
    rw c.in_ok-push.ensures.items (last_of_push c.self.inside.marks.items None c.len-position.result ends)

pub returns-in-Some : goal.returns-in-Some
returns-in-Some c =
    let marks = c.self.inside.marks.items in
    let ends : length marks ≡ c.len-position.result = search rules in
    let put = set_at marks None [] (Some c.in-Some.end) c.len-position.result ends in
    rw (← c.self.view_is, c.in-Some.is) (rw (c.in_ok-push.ensures.items, put) at c.put.ensures)
