use Rattle.std.proofs.Common.{◌∙◌, [], codes, sym}
use Rattle.std.proofs.lemmas.Option.{same_Some}
use Rattle.sound_terms.specs.Waves.{zeros}
use Rattle.devices.specs.AppendLaws.{added_to, leaves_others}
use Rattle.rendering.proofs.Calls.{and_then, one_call}
use Rattle.rendering.proofs.layout.begin.Goals as goal

pub returns-in-Err-clause-beside : goal.returns-in-Err-clause-beside
returns-in-Err-clause-beside g c = let one = c.in-Err.ensures in
    one_call g.B.Bench _ (g.met.B.Bench.only_now c.args.bench.now) one.time one.crash

pub returns-in-Err-append-clause-beside : goal.returns-in-Err-append-clause-beside
returns-in-Err-append-clause-beside g c = let one = c.in-Ok.ensures in let two = c.in-Err-append.ensures in
    and_then g.B.Bench _ (one_call g.B.Bench _ (g.met.B.Bench.only_now c.args.bench.now) one.time one.crash)
    (one_call g.B.Bench _ (g.met.B.Bench.only_now c.create.new.self) two.time two.crash)

pub returns-clause-beside : goal.returns-clause-beside
returns-clause-beside g c = let one = c.in-Ok.ensures in let two = c.in-Ok-append.ensures in
    and_then g.B.Bench _ (and_then g.B.Bench _
    (one_call g.B.Bench _ (g.met.B.Bench.only_now c.args.bench.now) one.time one.crash)
    (one_call g.B.Bench _ (g.met.B.Bench.only_now c.create.new.self) two.time two.crash))
    (leaves_others g.B.Bench (codes "render.wav") _ c.append.new.self c.append_zeros.new.self _
    c.append_zeros.ensures.appends)

pub returns-clause-begun : goal.returns-clause-begun
unfolding zeros
returns-clause-begun g c = λ honest.
    let created = rw (← c.in-Ok.ensures.only_writes.honest_same) at honest in
    let begun = rw (← c.in-Ok-append.ensures.only_writes.honest_same) at created in
    let is = (c.in-Ok-append.ensures.appended created).here in
    let empty = same_Some is.file [] (sym is.there ∙ (c.in-Ok.ensures.created honest).here) in
    added_to c.append_zeros.result _ _ c.args.head.now _ (rw empty at is.appended)
    (c.append_zeros.ensures.appends.appended begun)
