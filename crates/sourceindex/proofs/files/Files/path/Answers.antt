use Rattle.std.proofs.Common.{◌∙◌, arith}
use Rattle.sourceindex.proofs.FilePlaces.{path_read, path_within}
use Rattle.sourceindex.proofs.files.Files.path.Goals as goal

pub index-requires : goal.index-requires
index-requires c = omega (arith, path_within c.self.invariant c.self.view_is c.args.position c.requires, c.self.inside.paths.ok.0)

pub returns : goal.returns
returns c = λ file there.
    c.as_slice.ensures ∙ path_read c.self.invariant c.self.view_is c.args.position c.requires file there c.index.result.now
    c.index.ensures
