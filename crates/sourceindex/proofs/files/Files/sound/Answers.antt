use Rattle.std.proofs.Common.{arith}
use Rattle.sourceindex.proofs.FilePlaces.{sound_read, sound_within}
use Rattle.sourceindex.proofs.files.Files.sound.Goals as goal

pub index-requires : goal.index-requires
index-requires c = omega (arith, sound_within c.self.invariant c.self.view_is c.args.position c.requires, c.self.inside.sounds.ok.0)

pub returns : goal.returns
returns c = λ file there.
    sound_read c.self.invariant c.self.view_is c.args.position c.requires file there c.index.result.now c.index.ensures
