use Rattle.std.proofs.Common.{◌≡◌, ◌∙◌, [], ap}
use Rattle.sound_terms.specs.Depth.{bits_of}
use Rattle.sound_terms.specs.Waves.{u16_bytes, u64_bytes}
use Rattle.markfile.specs.Format.{run_bytes}
use Rattle.markfile.proofs.run.RunId.new.Goals as goal

pub returns-clause-digest : goal.returns-clause-digest
unfolding run_bytes u64_bytes u16_bytes
returns-clause-digest c =
    let range = c.args.range.now in
    let from : c.bytes_of_u64.result ≡ u64_bytes range.from =
    c.bytes_of_u64.ensures ∙ ap u64_bytes c.get.ensures.samples in
    let to : c.bytes_of_u64-2.result ≡ u64_bytes range.to =
    c.bytes_of_u64-2.ensures ∙ ap u64_bytes c.get-2.ensures.samples in
    let channels : c.bytes_of_u16.result ≡ u16_bytes range.channels =
    c.bytes_of_u16.ensures ∙ ap u16_bytes c.from.ensures in
    let depth : c.bytes_of_u16-2.result ≡ u16_bytes (bits_of range.depth) =
    c.bytes_of_u16-2.ensures ∙ ap u16_bytes (c.from-2.ensures ∙ c.bits.ensures) in
    let first = rw from at (c.update.ensures [] c.new-hasher.ensures) in
    let second = rw to at (c.update-2.ensures _ first) in
    let third = rw channels at (c.update-3.ensures _ second) in
    let fourth = rw depth at (c.update-4.ensures _ third) in
    c.finalize.ensures _ (c.update-5.ensures _ fourth)
