use Rattle.std.proofs.Common.{ℕ, Err, arith, length-take, ap}
use Rattle.std.proofs.lemmas.Result.{err_from_is_err_and}
use Rattle.riff.proofs.Reading.{still_holds, next_head}
use Rattle.riff.proofs.Refused.{refused_read, refused_sound, refused_size}
use Rattle.riff.proofs.Walking.{walked_unknown}
use Rattle.riff.proofs.wave.walk_on.Goals as goal

pub returns-in_err-read_at-clause-walked : goal.returns-in_err-read_at-clause-walked
returns-in_err-read_at-clause-walked g c = λ honest file there indexed before.
    let never = c.in_err-read_at.ensures.not_missing in
    let p = err_from_is_err_and c.from_residual.result c.from_residual.ensures.1 in
    rw (p.1, p.2) (refused_read file _ (λ same. never (ap Err same)))

pub returns-in_err-size-clause-walked : goal.returns-in_err-size-clause-walked
returns-in_err-size-clause-walked g c = λ honest file there indexed before.
    let next = next_head file (c.in_ok-read_at.ensures.read honest) there (c.in_ok-rest.ensures.walked file indexed)
    before (omega (arith, c.in_ok-rest.ensures.less)) c.of-head.result
    (omega (arith, c.min-count.ensures, c.read_at.auto.buffer, length-take {A = ℕ})) c.of-head.ensures.id
    c.of-head.ensures.size in
    let told = still_holds c.in_ok-read_at.ensures.only_reads.same c.in_ok-read_at.ensures.only_reads.honest_same c.in_err-size.ensures.size honest file there indexed in
    let refused = refused_size file c.args.sizes.now c.of-head.result c.in_err-size.field-0.0 told
    (walked_unknown file c.args.sizes.now c.args.end c.args.left _ next.0 c.of-head.result c.requires.head next.1) in
    let p = err_from_is_err_and c.from_residual-in_err-size.result c.from_residual-in_err-size.ensures.1 in
    rw (p.1, p.2) refused

pub returns-in_err-rest-2-clause-walked : goal.returns-in_err-rest-2-clause-walked
returns-in_err-rest-2-clause-walked g c = λ honest file there indexed before.
    let next = next_head file (c.in_ok-read_at.ensures.read honest) there (c.in_ok-rest.ensures.walked file indexed)
    before (omega (arith, c.in_ok-rest.ensures.less)) c.of-head.result
    (omega (arith, c.min-count.ensures, c.read_at.auto.buffer, length-take {A = ℕ})) c.of-head.ensures.id
    c.of-head.ensures.size in
    let cut = c.in_err-rest-2.ensures.walked file c.args.sizes.now next.0 next.1
    (still_holds c.in_ok-read_at.ensures.only_reads.same c.in_ok-read_at.ensures.only_reads.honest_same c.in_ok-size.ensures.size honest file there indexed) in
    let p = err_from_is_err_and c.from_residual-in_err-rest-2.result c.from_residual-in_err-rest-2.ensures.1 in
    rw (p.1, p.2) (refused_sound file _ cut)

pub returns-clause-walked : goal.returns-clause-walked
returns-clause-walked g c = λ honest file there indexed before.
    let next = next_head file (c.in_ok-read_at.ensures.read honest) there (c.in_ok-rest.ensures.walked file indexed)
    before (omega (arith, c.in_ok-rest.ensures.less)) c.of-head.result
    (omega (arith, c.min-count.ensures, c.read_at.auto.buffer, length-take {A = ℕ})) c.of-head.ensures.id
    c.of-head.ensures.size in
    c.in_ok-rest-2.ensures.walked file c.args.sizes.now next.0 next.1
    (still_holds c.in_ok-read_at.ensures.only_reads.same c.in_ok-read_at.ensures.only_reads.honest_same c.in_ok-size.ensures.size honest file there indexed)
