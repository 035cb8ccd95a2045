use Rattle.std.proofs.Common.{◌≡◌, false, arith, rules}
use Rattle.std.specs.Prelude.{◌==◌}
use Rattle.std.specs.List.{list_any}
use Rattle.std.proofs.lemmas.Grind.{common_steps}
use Rattle.std.proofs.lemmas.Bool.Decides.{nat_tests}
use Rattle.list_terms.specs.Text.{all_events}
use Rattle.adlread.proofs.Numbered.{AreEvents-push}
use Rattle.adlread.proofs.sections.EventList.add.Goals as goal

pub invariant_of-self : goal.invariant_of-self
invariant_of-self c =
    let number = c.args.number in
    let free : list_any (λ e. e.number == number) (all_events c.args.self.now.events.items c.args.self.now.entry)
    ≡ false
    = grind (arith, nat_tests, c.args.self.now.flags number) in
    let before : c.close.new.self.events.items ≡ all_events c.args.self.now.events.items c.args.self.now.entry =
    search rules in
    record {
      flags = grind (arith, common_steps);
      whole = rw before (AreEvents-push _ _ number c.args.self.now.whole free (search rules) (search rules));
    }
