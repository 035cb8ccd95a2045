use Rattle.std.proofs.Common.{◌∙◌, ap, slice_get, string_bytes}
use Rattle.list_terms.specs.Binding.{Binding}
use Rattle.list_terms.specs.Heard.{sounds_of}
use Rattle.sourceindex.proofs.FilePlaces.{named_at}
use Rattle.sourceindex.proofs.bound.Bound.into_name.Goals as goal

pub returns : goal.returns
returns c = λ facts there.
    named_at c.self.inside.binder.files c.args.file (string_bytes c.into_name.result) facts c.into_name.ensures
    (ap (λ (b : Binding). slice_get (sounds_of b) c.args.file) c.self.view_is ∙ there)
