use Rattle.std.proofs.Common.{◌≡◌, ◌<◌, length, arith, rules}
use Rattle.std.specs.Prelude.{ℤ, pos, ◌+ℤ◌}
use Rattle.std.proofs.lemmas.Int.{ints}
use Rattle.sound_terms.specs.declared.Depth.{Depth}
use Rattle.sound_terms.specs.declared.Depth.TheVariants.{Sixteen, TwentyFour, ThirtyTwo}
use Rattle.sound_terms.specs.Depth.{bits_of}
use Rattle.pcm.specs.Samples.{FitsDepth, samples_in}
use Rattle.pcm.specs.Laws.{all_fit, get_or-summed, length-samples_in, length-summed}
use Rattle.trials_sounds.proofs.tests.kernels.adds_to_zero.Goals as goal

-- a sample plus zero fits in 32 bits
alone : (depth : Depth) (sum sample : ℤ) → sum ≡ pos 0 → FitsDepth (bits_of depth) sample → FitsDepth 32 (sum +ℤ sample)
alone Sixteen sum sample zero fits = rw zero (omega (arith, ints, fits))
alone TwentyFour sum sample zero fits = rw zero (omega (arith, ints, fits))
alone ThirtyTwo sum sample zero fits = rw zero (omega (arith, ints, fits))

pub add_unpacked-requires-clause-room : goal.add_unpacked-requires-clause-room
add_unpacked-requires-clause-room g c = λ k d below.
    let bits = bits_of c.args.depth in
    let sums = c.args.sums.now in
    let bytes = c.args.bytes.now in
    let samples = samples_in bits (length sums) bytes in
    let inside : k < length sums = omega (arith, below, length-summed sums samples) in
    let near : k < length samples = omega (arith, inside, length-samples_in bits (length sums) bytes) in
    let zero = c.all_zero.ensures.0 (search rules) k d inside in
    let fit = all_fit c.args.depth (length sums) bytes (λ j. omega (arith, c.type_inv.bytes j)) k d near in
    rw (get_or-summed sums samples k d inside near) (alone c.args.depth _ _ zero fit)
