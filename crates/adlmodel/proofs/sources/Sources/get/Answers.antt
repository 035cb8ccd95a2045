use Rattle.std.proofs.Common.{◌∙◌, ap}
use Rattle.adlmodel.specs.Numbered.{source_of}
use Rattle.adlmodel.proofs.Entries.{found}
use Rattle.adlmodel.proofs.sources.Sources.get.Goals as goal

pub returns : goal.returns
returns c =
    c.get.ensures.value ∙ found c.self.inside.by_number.entries c.args.number c.self.invariant
    ∙ ap (λ ss. source_of ss c.args.number) c.self.view_is
