use Rattle.std.proofs.Common.{sym}
use Rattle.riff.proofs.Indexed.{index_kept, index_put}
use Rattle.riff.proofs.index.add_entry.Goals as goal

pub returns-in_ok-insert : goal.returns-in_ok-insert
returns-in_ok-insert c = λ file n has before.
    index_put file n c.args.entry.now c.args.index.now c.insert.new.self has c.key_of-key.ensures.is_id before
    (rw c.key_of-key.ensures.key at (sym c.if-not-contains_key.ensures))
    (rw c.key_of-key.ensures.key at c.in_ok-insert.ensures.updates)

pub returns-else-not-contains_key : goal.returns-else-not-contains_key
returns-else-not-contains_key c = λ file n has before.
    index_kept file n c.args.entry.now c.args.index.now has c.key_of-key.ensures.is_id before
    (rw c.key_of-key.ensures.key at (sym c.if-not-contains_key.ensures))
