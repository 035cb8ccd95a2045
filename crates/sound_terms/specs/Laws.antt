-- Laws of the fields of sound files: lengths, and reading written fields back.
use Rattle.std.proofs.Common.{◌≡◌, ℕ, ◌^◌, ◌<◌, ◌≤◌, List, ◌++◌, length, refl, arith, length-append}
use Rattle.std.proofs.lemmas.List.{length-replicate}
use Rattle.byteorder.specs.Endian.{little_number}
use Rattle.byteorder.specs.Numbers.{little_number-reads_back}
use Rattle.sound_terms.specs.declared.Depth.{Depth}
use Rattle.sound_terms.specs.declared.Depth.TheVariants.{Sixteen, TwentyFour, ThirtyTwo}
use Rattle.sound_terms.specs.Depth.{bits_of}
use Rattle.sound_terms.specs.Waves.{u16_bytes, u32_bytes, u64_bytes, zeros, chunk_head}

-- a sample has 16 to 32 bits
pub bits_bounded : (depth : Depth) → (16 ≤ bits_of depth) × (bits_of depth ≤ 32)
bits_bounded Sixteen = omega arith
bits_bounded TwentyFour = omega arith
bits_bounded ThirtyTwo = omega arith

pub length-u16_bytes : (n : ℕ) → length (u16_bytes n) ≡ 2
unfolding u16_bytes
length-u16_bytes n = refl

pub length-u32_bytes : (n : ℕ) → length (u32_bytes n) ≡ 4
unfolding u32_bytes
length-u32_bytes n = refl

pub length-u64_bytes : (n : ℕ) → length (u64_bytes n) ≡ 8
unfolding u64_bytes
length-u64_bytes n = refl

pub length-zeros : (n : ℕ) → length (zeros n) ≡ n
unfolding zeros
length-zeros n = length-replicate n 0

pub length-chunk_head : (id : List ℕ) (size : ℕ) → length id ≡ 4 → length (chunk_head id size) ≡ 8
unfolding chunk_head
length-chunk_head id size four = omega (arith, length-append id (u32_bytes size), length-u32_bytes size)

pub u16-reads_back : (n : ℕ) (rest : List ℕ) → n < 65536 → little_number 2 (u16_bytes n ++ rest) ≡ n
unfolding u16_bytes
u16-reads_back n rest below = little_number-reads_back 2 n rest (omega arith)

pub u32-reads_back : (n : ℕ) (rest : List ℕ) → n < 4294967296 → little_number 4 (u32_bytes n ++ rest) ≡ n
unfolding u32_bytes
u32-reads_back n rest below = little_number-reads_back 4 n rest (omega arith)

pub u64-reads_back : (n : ℕ) (rest : List ℕ) → n < 2 ^ 64 → little_number 8 (u64_bytes n ++ rest) ≡ n
unfolding u64_bytes
u64-reads_back n rest below = little_number-reads_back 8 n rest (omega arith)
