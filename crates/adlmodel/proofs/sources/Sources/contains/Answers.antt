use Rattle.std.proofs.Common.{◌∙◌, ap}
use Rattle.std.specs.Prelude.{◌==◌, is_some}
use Rattle.std.specs.List.{list_any}
use Rattle.adlmodel.proofs.Entries.{any_of_number, found}
use Rattle.adlmodel.proofs.sources.Sources.contains.Goals as goal

pub returns : goal.returns
returns c =
    c.contains_key.ensures ∙ ap is_some (found c.self.inside.by_number.entries c.args.number c.self.invariant)
    ∙ any_of_number _ c.args.number ∙ ap (λ ss. list_any (λ other. other.number == c.args.number) ss) c.self.view_is
