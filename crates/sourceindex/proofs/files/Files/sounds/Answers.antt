use Rattle.std.proofs.Common.{◌∙◌, map, ap, sym}
use Rattle.list_terms.specs.Binding.{OpenedFile}
use Rattle.sourceindex.proofs.FilePlaces.{sounds_opened}
use Rattle.sourceindex.proofs.files.Files.sounds.Goals as goal

pub returns : goal.returns
returns c =
    c.as_slice.ensures.value ∙ sym (sounds_opened c.self.inside.paths.items c.self.inside.sounds.items)
    ∙ ap (map (λ (file : OpenedFile). file.facts)) c.self.view_is
