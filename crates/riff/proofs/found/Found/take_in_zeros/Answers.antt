use Rattle.riff.proofs.ZeroHeads.{walked_all_zeros}
use Rattle.riff.proofs.found.Found.take_in_zeros.Goals as goal

pub returns-clause-walked : goal.returns-clause-walked
returns-clause-walked c = λ file sizes before has.
    walked_all_zeros file sizes c.args.end c.args.left c.args.count _ before c.requires.some c.requires.room has
