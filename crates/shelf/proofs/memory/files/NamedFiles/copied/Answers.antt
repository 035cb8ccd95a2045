use Rattle.std.proofs.lemmas.List.Elements.{same_from_all_zip}
use Rattle.shelf.proofs.Copied.{same_bytes}
use Rattle.shelf.proofs.memory.files.NamedFiles.copied.Goals as goal

pub returns : goal.returns
returns c = λ name.
    same_bytes name _ _ (λ x y same. same) (λ v w same. same_from_all_zip _ v.items w.items same.0 (λ a b is. is))
    c.args.self.now.files.entries c.in_ok-files.files.entries c.in_ok-files.ensures.cases
