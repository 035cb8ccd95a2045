use Rattle.std.proofs.Common.{sym}
use Rattle.commandline.proofs.Numerals.{number_read, number_unread}
use Rattle.commandline.proofs.request.number_in.Goals as goal

pub returns-in_default-clause-value : goal.returns-in_default-clause-value
returns-in_default-clause-value c =
    sym (number_unread c.args.low c.args.high c.args.text.now c.ranges.high.fits c.in_default.ensures.value.0)

pub returns-then-number-high-clause-value : goal.returns-then-number-high-clause-value
returns-then-number-high-clause-value c =
    sym (number_read c.args.low c.args.high c.in-Ok.number c.args.text.now c.in-Ok.ensures.value.0.0.0
    c.in-Ok.ensures.value.0.1 c.if-low-number.true c.if-number-high.true)
