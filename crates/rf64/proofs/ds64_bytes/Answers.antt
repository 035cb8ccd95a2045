use Rattle.std.proofs.Common.{◌∙◌, ap, refl}
use Rattle.sound_terms.specs.Waves.{u32_bytes, u64_bytes}
use Rattle.sound_terms.specs.Ds64.{ds64_of, ds64_bytes}
use Rattle.rf64.specs.Laws.{ds64_again}
use Rattle.rf64.proofs.ds64_bytes.Goals as goal

bytes_put : goal.returns-clause-bytes
unfolding ds64_bytes u32_bytes u64_bytes
bytes_put c = rw (c.write_u64-3.ensures, c.write_u64-2.ensures, c.write_u64.ensures) refl

pub returns-clause-bytes : goal.returns-clause-bytes
returns-clause-bytes = bytes_put

pub returns-clause-again : goal.returns-clause-again
returns-clause-again c =
    ap (λ bytes. ds64_of bytes 28) (bytes_put c)
    ∙ ds64_again c.args.riff_size c.args.data_size c.args.samples c.ranges.riff_size.fits c.ranges.data_size.fits
    c.ranges.samples.fits
