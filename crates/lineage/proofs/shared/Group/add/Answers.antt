use Rattle.std.proofs.Common.{◌<◌, ◌≤◌, arith, length}
use Rattle.lineage.proofs.Grouping.{add_more, add_named}
use Rattle.lineage.proofs.shared.Group.add.Goals as goal

pub returns-then-len-lt-MOST_NAMED-clause-added : goal.returns-then-len-lt-MOST_NAMED-clause-added
returns-then-len-lt-MOST_NAMED-clause-added c = λ numbers same.
    let few : length c.args.self.now.given.items < 1000 =
    omega (arith, c.len.ensures, c.if-len-lt-MOST_NAMED.true, c.args.self.now.given.ok) in
    rw c.in_ok-push.ensures.items (add_named numbers _ _ c.args.number same few)

pub returns-clause-added : goal.returns-clause-added
returns-clause-added c = λ numbers same.
    let many : 1000 ≤ length c.args.self.now.given.items =
    omega (arith, c.len.ensures, c.if-len-lt-MOST_NAMED.false, c.args.self.now.given.ok) in
    add_more numbers _ _ c.args.number same many
