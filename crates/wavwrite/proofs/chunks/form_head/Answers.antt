use Rattle.std.proofs.Common.{◌≡◌, true, false, ◌∙◌}
use Rattle.sound_terms.specs.Waves.{is_large}
use Rattle.wavwrite.proofs.HeaderBytes.{form_riff, form_rf64}
use Rattle.wavwrite.proofs.chunks.form_head.Goals as goal

pub returns-then-is_large : goal.returns-then-is_large
returns-then-is_large c =
    let large : is_large c.args.info.now ≡ true = cc in
    rw (c.ds64_bytes-sizes.ensures.bytes, c.data_length.ensures.value, c.frames.ensures) at c.form_of.ensures
    ∙ form_rf64 c.args.info.now c.form_size-size.result c.form_size-size.ensures large

pub returns : goal.returns
returns c =
    let small : is_large c.args.info.now ≡ false = cc in
    c.form_of-2.ensures ∙ form_riff c.args.info.now c.form_size-size.result c.form_size-size.ensures small
