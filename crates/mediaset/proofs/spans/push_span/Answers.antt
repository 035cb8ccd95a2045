use Rattle.std.proofs.Common.{append_assoc}
use Rattle.mediaset.proofs.Gathered.{put_last}
use Rattle.mediaset.proofs.spans.push_span.Goals as goal

pub returns-then-goes_on : goal.returns-then-goes_on
returns-then-goes_on c =
    let put = put_last c.pop.new.self.items c.in-Some.last c.args.span in
    rw (c.in-Some.ensures.items, put, ← c.goes_on.ensures, c.if-goes_on.true)
    (rw c.max.ensures at c.in_ok-push-2.ensures.items)

pub returns : goal.returns
returns c =
    let put = put_last c.pop.new.self.items c.in-Some.last c.args.span in
    rw (c.in-Some.ensures.items, put, ← c.goes_on.ensures, c.if-goes_on.false)
    (rw (c.in_ok-push-3.ensures.items, append_assoc) at c.in_ok-push-4.ensures.items)
