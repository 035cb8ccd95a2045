use Rattle.std.proofs.Common.{◌≡◌, ◌∙◌, ◌++◌, ◌∷◌, [], ap, nat_eq, rules, false}
use Rattle.std.specs.Prelude.{◌==◌}
use Rattle.std.specs.List.{list_any}
use Rattle.indexmap.proofs.CallerLemmas.{insert_entry-new}
use Rattle.indexmap.specs.IndexMap.{insert_entry, values}
use Rattle.adlmodel.proofs.Entries.{IsPushed, absent, pushed}
use Rattle.adlmodel.proofs.sources.Sources.push.Goals as goal
use Rattle.adlmodel.proofs.sources.Sources.push.Goals.{Joined-branch-2}

added : (c : Joined-branch-2) → IsPushed c.self.inside.by_number.entries c.insert.new.self.entries c.args.source
added c =
    let n = c.args.source.number in
    let free : list_any (λ other. other.number == n) (values c.self.inside.by_number) ≡ false =
    ap (λ ss. list_any (λ other. other.number == n) ss) c.self.view_is ∙ c.requires in
    let entries : c.insert.new.self.entries ≡ insert_entry nat_eq c.self.inside.by_number.entries n c.args.source =
    search rules in
    pushed c.self.inside.by_number.entries c.insert.new.self.entries c.args.source c.self.invariant
    (entries ∙ insert_entry-new nat_eq c.self.inside.by_number n c.args.source
    (absent c.self.inside.by_number.entries n c.self.invariant free))

pub invariant_of-self-2 : goal.invariant_of-self-2
invariant_of-self-2 c = (added c).numbered

pub returns-clause-pushed : goal.returns-clause-pushed
returns-clause-pushed c = (added c).values_are ∙ ap (λ ss. ss ++ c.args.source ∷ []) c.self.view_is
