use Rattle.std.proofs.Common.{arith, rules}
use Rattle.std.proofs.lemmas.Grind.{common_steps}
use Rattle.adlread.proofs.Numbered.{AreEvents-changed}
use Rattle.adlread.proofs.sections.EventList.add_further.Goals as goal

pub invariant_of-self : goal.invariant_of-self
invariant_of-self c = record {
  flags = grind (arith, common_steps);
  whole = AreEvents-changed _ c.args.self.now.entry c.in-Some.entry _ c.args.self.now.whole (search rules)
      c.in_ok-entry-in-Some.ensures.number c.in_ok-entry-in-Some.ensures.whole;
}
