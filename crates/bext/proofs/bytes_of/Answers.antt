use Rattle.std.proofs.Common.{◌≡◌, ◌<◌, ◌^◌, ◌∙◌, ap, arith, replicate, length}
use Rattle.facts.specs.Filling.{three_filled}
use Rattle.sound_terms.specs.Waves.{u16_bytes, u64_bytes, zeros}
use Rattle.sound_terms.specs.Bext.{bext_of, bext_bytes}
use Rattle.sound_terms.specs.Laws.{length-u16_bytes, length-u64_bytes}
use Rattle.bext.proofs.Fields.{bext_again}
use Rattle.bext.proofs.bytes_of.Goals as goal

bytes_put : goal.returns-clause-bytes
unfolding bext_bytes zeros
bytes_put c =
    let bext = c.args.bext.now in
    let next = c.put-2.ensures in
    let last = c.put-3.ensures in
    let a : length bext.text ≡ 338 = omega arith in
    let b = length-u64_bytes bext.time_reference in
    let d = length-u16_bytes 1 in
    three_filled bext.text (u64_bytes bext.time_reference) (u16_bytes 1) (replicate 602 0) _ _ _
    338 346 348 a (omega arith) (omega arith) c.put.ensures (rw c.u64_field.ensures at next) (rw c.u16_field.ensures at last)

pub returns-clause-bytes : goal.returns-clause-bytes
returns-clause-bytes = bytes_put

pub returns-clause-again : goal.returns-clause-again
returns-clause-again c =
    let bext = c.args.bext.now in
    let whole : length bext.text ≡ 338 = omega arith in
    let fits : bext.time_reference < 2 ^ 64 = omega arith in
    ap bext_of (bytes_put c) ∙ bext_again bext whole fits
