use Rattle.std.proofs.Common.{rules}
use Rattle.sampletime.proofs.RoundTrip.{text_is_again}
use Rattle.sampletime.proofs.parse_time.Goals as goal

pub returns-in-len16-clause-again : goal.returns-in-len16-clause-again
returns-in-len16-clause-again c =
    text_is_again c.args.rate c.args.text.now c.parse_fields.result (search rules)
