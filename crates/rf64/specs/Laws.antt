-- Parsing the bytes of a `ds64` chunk gives its fields back.
use Rattle.std.proofs.Common.{◌≡◌, ℕ, ◌^◌, ◌<◌, [], ◌++◌, length, refl, ap, ◌∙◌, arith, length-append, Some}
use Rattle.std.proofs.lemmas.List.{append_assoc, append-nil, drop_at}
use Rattle.byteorder.specs.Endian.{little_number}
use Rattle.sound_terms.specs.Waves.{u32_bytes, u64_bytes}
use Rattle.sound_terms.specs.Chunks.{number_at}
use Rattle.sound_terms.specs.Ds64.{ds64_of, ds64_bytes}
use Rattle.sound_terms.specs.Laws.{length-u64_bytes, u32-reads_back, u64-reads_back}

pub ds64_again : (riff_size data_size samples : ℕ) → riff_size < 2 ^ 64 → data_size < 2 ^ 64 → samples < 2 ^ 64
    → ds64_of (ds64_bytes riff_size data_size samples) 28
    ≡ Some (record { riff_size = riff_size; data_size = data_size; samples = samples; entries = 0 })
unfolding ds64_bytes
ds64_again riff_size data_size samples riff_fits data_fits samples_fit =
    let riff = u64_bytes riff_size in
    let sound = u64_bytes data_size in
    let count = u64_bytes samples in
    let none = u32_bytes 0 in
    let bytes = riff ++ (sound ++ (count ++ none)) in
    let first : number_at 8 0 bytes ≡ riff_size = u64-reads_back riff_size (sound ++ (count ++ none)) riff_fits in
    let second : number_at 8 8 bytes ≡ data_size =
    ap (little_number 8) (drop_at riff (sound ++ (count ++ none)) 8 (length-u64_bytes riff_size))
    ∙ u64-reads_back data_size (count ++ none) data_fits in
    let two : length (riff ++ sound) ≡ 16 = simp (length-append, length-u64_bytes) (omega arith) in
    let pair : bytes ≡ (riff ++ sound) ++ (count ++ none) = simp append_assoc in
    let third : number_at 8 16 bytes ≡ samples =
    ap (number_at 8 16) pair ∙ ap (little_number 8) (drop_at (riff ++ sound) (count ++ none) 16 two)
    ∙ u64-reads_back samples none samples_fit in
    let three : length (riff ++ (sound ++ count)) ≡ 24 = simp (length-append, length-u64_bytes) (omega arith) in
    let grouped : bytes ≡ (riff ++ (sound ++ count)) ++ (none ++ []) = simp (append_assoc, append-nil) in
    let last : number_at 4 24 bytes ≡ 0 =
    ap (number_at 4 24) grouped ∙ ap (little_number 4) (drop_at (riff ++ (sound ++ count)) (none ++ []) 24 three)
    ∙ u32-reads_back 0 [] (omega arith) in
    rw (last, first, second, third) refl
