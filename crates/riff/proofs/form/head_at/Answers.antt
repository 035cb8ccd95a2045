use Rattle.std.proofs.Common.{arith}
use Rattle.riff.proofs.Reading.{ranged, head_front}
use Rattle.riff.proofs.form.head_at.Goals as goal

pub returns-clause-head : goal.returns-clause-head
returns-clause-head g c = λ honest file there.
    head_front file c.args.at c.read_at.new.buffer c.of.result
    (ranged _ file _ _ (c.in_ok-read_at.ensures.read honest) there)
    (omega arith) c.of.ensures.id c.of.ensures.size
