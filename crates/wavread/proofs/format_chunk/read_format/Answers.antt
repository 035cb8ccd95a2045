use Rattle.std.proofs.Common.{◌≡◌, ℕ, min, length, arith, rules, sym, ap, ◌∙◌, length-take}
use Rattle.std.proofs.lemmas.Result.{err_from_is_err_and}
use Rattle.facts.specs.Tests.{unless}
use Rattle.riff.specs.Fault.{as_media}
use Rattle.wavread.proofs.Formats.{format_read, told_never_device}
use Rattle.wavread.proofs.format_chunk.read_format.Goals as goal

pub returns-clause-exact : goal.returns-clause-exact
returns-clause-exact g c = λ honest file there.
    let shorter = c.min-length.ensures in
    let count : length c.read_at.new.buffer ≡ min c.args.contents.length 40 =
    omega (arith, c.read_at.auto.buffer, length-take {A = ℕ}) in
    let read =
    format_read _ file c.args.contents c.read_at.new.buffer (c.in_ok-read_at.ensures.read honest) there count in
    sym (c.in_ok-format.ensures.exact ∙ ap as_media read)

pub returns-in_err-format-clause-exact : goal.returns-in_err-format-clause-exact
returns-in_err-format-clause-exact g c = λ honest file there.
    let shorter = c.min-length.ensures in
    let count : length c.read_at.new.buffer ≡ min c.args.contents.length 40 =
    omega (arith, c.read_at.auto.buffer, length-take {A = ℕ}) in
    let read =
    format_read _ file c.args.contents c.read_at.new.buffer (c.in_ok-read_at.ensures.read honest) there count in
    let p = err_from_is_err_and c.from_residual-in_err-format.result c.from_residual-in_err-format.ensures.1 in
    rw (p.1, p.2) (unless _ _ (sym (c.in_err-format.ensures.exact ∙ ap as_media read)))

pub returns-in_err-format-clause-only_reads : goal.returns-in_err-format-clause-only_reads
returns-in_err-format-clause-only_reads g c =
    let never = told_never_device _ _ c.in_err-format.ensures.exact in
    let p = err_from_is_err_and c.from_residual-in_err-format.result c.from_residual-in_err-format.ensures.1 in
    rw (p.1, p.2) (search rules)
