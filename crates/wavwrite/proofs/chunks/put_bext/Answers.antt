use Rattle.wavwrite.proofs.HeaderBytes.{bext_put}
use Rattle.wavwrite.proofs.chunks.put_bext.Goals as goal

pub returns-clause-put : goal.returns-clause-put
returns-clause-put c =
    bext_put c.args.info.now c.bext.result.now c.history-history.result.now _ _ _ _ _ c.bext.ensures.text
    c.bext.ensures.time_reference c.history-history.ensures.history (rw c.chunk_head-head.ensures at c.put-at.ensures.put)
    (rw c.bytes_of.ensures.bytes at c.put-at-2.ensures.put) c.put-at-3.ensures.put c.put.ensures.put
