use Rattle.std.proofs.Common.{rules}
use Rattle.std.specs.BTreeMap.{get_by_text}
use Rattle.opening.proofs.Known.{knows_again, knows_more}
use Rattle.opening.proofs.further.paths.Paths.note.Goals as goal

pub returns-then-is_same-clause-noted : goal.returns-then-is_same-clause-noted
returns-then-is_same-clause-noted c = λ places knows.
    knows_again (get_by_text c.args.self.now.paths) places c.args.location.now c.in-Some.path.now knows
    (search rules)

pub returns-else-is_same-clause-noted : goal.returns-else-is_same-clause-noted
returns-else-is_same-clause-noted c = λ places knows.
    knows_again (get_by_text c.args.self.now.paths) places c.args.location.now c.in-Some.path.now knows
    (search rules)

pub returns-clause-noted : goal.returns-clause-noted
returns-clause-noted c = λ places knows.
    knows_more c.args.self.now.paths c.insert.new.self places c.args.location.now knows (search rules) (search rules)
