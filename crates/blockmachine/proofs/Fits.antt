-- Emitted samples fit their depth.
use Rattle.std.proofs.Common.{ℕ, zero, suc, All}
use Rattle.std.specs.Prelude.{ℤ}
use Rattle.std.proofs.lemmas.List.Elements.{All-append, All-cons, All-nil}
use Rattle.sound_terms.specs.declared.Depth.{Depth}
use Rattle.sound_terms.specs.Depth.{bits_of}
use Rattle.sound_terms.specs.Blocks.{block_samples, frame_samples}
use Rattle.pcm.specs.Samples.{FitsDepth}
use Rattle.pcm.specs.Laws.{fits_quantized}

module _ (depth : Depth) (sums : ℕ → ℕ → ℤ) where
  fits_frame : (i c n : ℕ) → All (FitsDepth (bits_of depth)) (frame_samples (bits_of depth) sums i c n)
  fits_frame i c zero = All-nil (FitsDepth (bits_of depth))
  fits_frame i c (suc n) =
      All-cons (FitsDepth (bits_of depth)) _ _ (fits_quantized depth (sums i c)) (fits_frame i (suc c) n)

  -- all samples of a block fit the depth
  pub fits_block : (channels i n : ℕ)
      → All (FitsDepth (bits_of depth)) (block_samples (bits_of depth) sums channels i n)
  fits_block channels i zero = All-nil (FitsDepth (bits_of depth))
  fits_block channels i (suc n) =
      All-append (FitsDepth (bits_of depth)) _ _ (fits_frame i 1 channels) (fits_block channels (suc i) n)
