use Rattle.commandline.specs.Request.{asked_of}
use Rattle.list_terms.specs.Text.{rate_of}
use Rattle.adlcons.proofs.Timed.{still_mistaken}
use Rattle.adlcons.proofs.folders.warn_unlocked.Goals as goal

pub returns : goal.returns
returns g c = λ last was.
    still_mistaken g.E.Console c.args.err.now c.tell_unlocked.new.err last (rate_of c.args.list.now)
    (asked_of c.args.request) (c.can_be_timed.ensures c.if-not-can_be_timed.false) was
