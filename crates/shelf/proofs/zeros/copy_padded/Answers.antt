use Rattle.std.proofs.Common.{rules, ◌≡◌, ◌-◌, refl, replicate, length, take, drop, length-append}
use Rattle.std.proofs.lemmas.List.{length-replicate}
use Rattle.shelf.proofs.Padded.{read_padded}
use Rattle.shelf.proofs.zeros.copy_padded.Goals as goal

pub returns : goal.returns
returns c n inside =
    let head = c.args.head.now in
    let count = c.min-count.result in
    let filled : c.fill.new.self ≡ replicate (length c.args.buffer.now) 0 = search rules in
    let copied : c.copy_from_slice.new.self ≡ take count (drop c.min-from.result head) = search rules in
    let read = read_padded head c.args.at (length c.args.buffer.now) (n - length head) c.min-from.result count
    (simp (length-append, length-replicate) at inside) (search rules) (search rules) in
    rw (copied, filled, read) refl
