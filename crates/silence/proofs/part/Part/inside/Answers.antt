use Rattle.std.proofs.Common.{arith}
use Rattle.silence.specs.Zero.{part_of}
use Rattle.silence.proofs.Parts.{clipped}
use Rattle.silence.proofs.part.Part.inside.Goals as goal

pub returns-clause-rest : goal.returns-clause-rest
returns-clause-rest c = λ files.
    clipped files c.args.sound.now (part_of c.args.piece.now) _ (omega arith) (omega arith) (omega arith) (omega arith)
