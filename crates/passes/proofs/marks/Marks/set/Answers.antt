use Rattle.std.proofs.lemmas.List.{set-set}
use Rattle.passes.proofs.marks.Marks.set.Goals as goal

pub returns-in-Some : goal.returns-in-Some
returns-in-Some c = rw c.in-Some.is (simp (set-set, c.clear.ensures) at c.put.ensures)
