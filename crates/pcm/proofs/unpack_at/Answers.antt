use Rattle.std.proofs.Common.{◌≡◌, ◌*◌, ◌/◌, ◌∙◌, ap, arith, length, drop, rules}
use Rattle.std.specs.Int.{w32, cast_signed, cast_unsigned}
use Rattle.std.proofs.lemmas.Int.{to_z-of_z}
use mir.Val.{SFits}
use Rattle.sound_terms.specs.Depth.{bits_of}
use Rattle.sound_terms.specs.Waves.{sample_of}
use Rattle.pcm.proofs.Steps.{one_read, read_again, read_fit}
use Rattle.pcm.proofs.unpack_at.Goals as goal

pub loop-i-preserved : goal.loop-i-preserved
loop-i-preserved c =
    let bits = bits_of c.args.depth in
    let bytes = c.args.bytes.now in
    let sample = c.sample_at.result in
    let fits : SFits w32 sample = search rules in
    let read : cast_signed w32 (cast_unsigned w32 sample) ≡ sample_of bits (drop (c.loop-i.i * (bits / 8)) bytes) =
    to_z-of_z w32 sample fits ∙ c.sample_at.ensures in
    one_read bits c.loop-i.i bytes c.loop-i.samples _ (omega arith) read c.loop-i.invariant

pub returns-clause-fit : goal.returns-clause-fit
returns-clause-fit c =
    read_fit c.args.depth c.loop-i.i c.args.bytes.now c.loop-i.samples (λ k. omega (arith, c.type_inv.bytes k))
    (omega arith) c.loop-i.invariant

pub returns-clause-again : goal.returns-clause-again
returns-clause-again c =
    let all : length c.args.samples.now ≡ c.loop-i.i = search rules in
    read_again c.args.depth c.loop-i.i c.args.bytes.now c.loop-i.samples (λ k. omega (arith, c.type_inv.bytes k))
    (omega arith) c.loop-i.invariant (c.requires ∙ ap (λ n. n * (bits_of c.args.depth / 8)) all)
