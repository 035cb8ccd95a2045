-- Stored samples added to sums at their depth.
use Rattle.std.proofs.Common.{◌≡◌, ◌<◌, ◌≤◌, ℕ, List, All, get_or, length, arith, refl, sym, ap, ◌∙◌, subst}
use Rattle.std.specs.Prelude.{ℤ, pos}
use Rattle.std.proofs.lemmas.Int.{ints}
use Rattle.std.proofs.lemmas.List.{get_or_default, length-map}
use Rattle.sound_terms.specs.declared.Depth.{Depth}
use Rattle.sound_terms.specs.Depth.{bits_of}
use Rattle.sound_terms.specs.Mix.{full_scale}
use Rattle.pcm.specs.Samples.{FitsDepth, summed}
use Rattle.pcm.specs.Laws.{get_or-summed, length-summed}
use Rattle.soundlaw.specs.Sums.{IsWithin}
use Rattle.blockmachine.specs.Sums.{HasAdded, widened}
use Rattle.blockmachine.proofs.Added.{flat_share}
use Rattle.blockmachine.proofs.AtDepth.{get_or-widened, layer_fits, layer_sum}

module _ (depth : Depth) (sums samples : List ℤ) (shallow : bits_of depth ≤ 24) (each : length samples ≡ length sums)
    (fit : All (FitsDepth (bits_of depth)) samples) (small : All (IsWithin 254) (widened (bits_of depth) sums))
  where
    small_at : (k : ℕ) → k < length sums → IsWithin 254 (full_scale (bits_of depth) (get_or sums k (pos 0)))
    small_at k inside =
        subst (IsWithin 254) (get_or-widened (bits_of depth) sums k inside)
        (small k (pos 0) (omega (arith, inside, length-map sums (full_scale (bits_of depth)))))

    -- no sum exceeds 32 bits
    pub stored_room : All (FitsDepth 32) (summed sums samples)
    stored_room = λ k d below.
        let inside : k < length sums = omega (arith, below, length-summed sums samples) in
        let near : k < length samples = omega (arith, inside, each) in
        let fits = layer_fits depth (get_or sums k (pos 0)) (get_or samples k (pos 0)) shallow (small_at k inside)
        (fit k (pos 0) near) in
        let same = get_or_default (summed sums samples) k d (pos 0) below ∙ get_or-summed sums samples k (pos 0) inside near in
        subst (FitsDepth 32) (sym same) (omega (arith, ints, fits))

    pub stored_added : HasAdded (1, 1) (bits_of depth) samples (widened (bits_of depth) sums)
        (widened (bits_of depth) (summed sums samples))
    stored_added = λ k below.
        let bits = bits_of depth in
        let long : k < length (summed sums samples) =
        omega (arith, below, length-map (summed sums samples) (full_scale bits)) in
        let inside : k < length sums = omega (arith, long, length-summed sums samples) in
        let near : k < length samples = omega (arith, inside, each) in
        let sum = get_or sums k (pos 0) in
        let sample = get_or samples k (pos 0) in
        get_or-widened bits (summed sums samples) k long
        ∙ ap (full_scale bits) (get_or-summed sums samples k (pos 0) inside near)
        ∙ layer_sum depth sum sample (small_at k inside) (fit k (pos 0) near)
        ∙ rw (get_or-widened bits sums k inside, flat_share (full_scale bits sample)) refl
