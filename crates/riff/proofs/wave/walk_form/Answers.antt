use Rattle.std.proofs.Common.{◌≡◌, arith, rules, sym, ap, ◌∙◌}
use Rattle.std.proofs.lemmas.Result.{err_from_is_err_and}
use Rattle.riff.specs.Fault.{as_media}
use Rattle.riff.specs.Found.{heads_of}
use Rattle.riff.proofs.Walking.{walked_start, walked_end, chunks_counted}
use Rattle.riff.proofs.Refused.{refused_sound}
use Rattle.riff.proofs.wave.walk_form.Goals as goal

pub loop-left-init : goal.loop-left-init
loop-left-init g c =
    let form = c.args.form.now in
    let seen : c.nothing-found.result.seen ≡ heads_of form.sizes = c.nothing-found.ensures.seen ∙ c.heads.ensures in
    record {
      sources = search rules;
      count = (omega arith, omega arith);
      close = omega arith;
      inside = record { ends = c.nothing-found.ensures.ends c.args.end; few = omega (arith, seen) };
      walked = λ honest file there whole laid indexed. walked_start file form.sizes c.args.end form.left _ whole laid
          (omega (arith, c.requires.few)) (c.nothing-found.ensures.found c.args.end) seen;
    }

pub returns-in_err-chunks-clause-exact : goal.returns-in_err-chunks-clause-exact
returns-in_err-chunks-clause-exact g c = λ honest file there whole laid indexed.
    let before = c.loop-left.invariant.walked honest file there whole laid indexed in
    let end = walked_end file c.args.form.now.sizes c.args.end c.loop-left.left _ before (omega arith) in
    let read = end.1 ∙ sym (c.in_err-chunks.ensures.exact c.args.end before.before before.seen) in
    let p = err_from_is_err_and c.from_residual-in_err-chunks.result c.from_residual-in_err-chunks.ensures.1 in
    rw (p.1, p.2) (refused_sound file _ read)

pub returns-clause-exact : goal.returns-clause-exact
returns-clause-exact g c = λ honest file there whole laid indexed.
    let before = c.loop-left.invariant.walked honest file there whole laid indexed in
    let end = walked_end file c.args.form.now.sizes c.args.end c.loop-left.left _ before (omega arith) in
    ap as_media (end.1 ∙ sym (c.in_ok-chunks.ensures.exact c.args.end before.before before.seen))

pub returns-clause-seen : goal.returns-clause-seen
returns-clause-seen g c = λ honest file there whole laid indexed.
    let before = c.loop-left.invariant.walked honest file there whole laid indexed in
    chunks_counted file c.args.form.now.sizes c.args.end c.loop-left.left _ before (omega arith)
