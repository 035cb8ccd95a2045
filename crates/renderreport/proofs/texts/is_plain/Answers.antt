use Rattle.std.proofs.Common.{refl}
use Rattle.renderreport.proofs.Plain.{one_more_plain}
use Rattle.renderreport.proofs.texts.is_plain.Goals as goal

pub loop-byte-preserved : goal.loop-byte-preserved
loop-byte-preserved c =
    one_more_plain c.args.text.now c.loop-byte.byte-index _ c.loop-byte-test.true refl c.loop-byte.invariant
    (c.is_escaped.ensures c.if-is_escaped.false)
