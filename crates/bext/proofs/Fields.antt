-- Parsing the bytes of a `bext` chunk gives its fields back.
use Rattle.std.proofs.Common.{◌≡◌, ◌^◌, ◌<◌, ◌++◌, length, take, true, nat_le, ap, ◌∙◌, arith, length-append, Some, le-leb}
use Rattle.std.proofs.lemmas.List.{drop_at, take_at}
use Rattle.byteorder.specs.Endian.{little_number}
use Rattle.sound_terms.specs.declared.Bext.{Bext}
use Rattle.sound_terms.specs.Waves.{u16_bytes, u64_bytes, zeros}
use Rattle.sound_terms.specs.Chunks.{number_at}
use Rattle.sound_terms.specs.Bext.{bext_of, bext_bytes}
use Rattle.sound_terms.specs.Laws.{length-u16_bytes, length-u64_bytes, length-zeros, u64-reads_back}

pub bext_again : (bext : Bext) → length bext.text ≡ 338 → bext.time_reference < 2 ^ 64
    → bext_of (bext_bytes bext) ≡ Some bext
unfolding bext_bytes
bext_again bext whole fits =
    let time = u64_bytes bext.time_reference in
    let last = u16_bytes 1 ++ zeros 254 in
    let bytes = bext.text ++ (time ++ last) in
    let size : length bytes ≡ 602 =
    simp (length-append, length-zeros, length-u16_bytes, length-u64_bytes) (omega arith) in
    let long : nat_le 346 (length bytes) ≡ true = le-leb 346 (length bytes) (omega arith) in
    let text : take 338 bytes ≡ bext.text = take_at bext.text (time ++ last) 338 whole in
    let told : number_at 8 338 bytes ≡ bext.time_reference =
    ap (little_number 8) (drop_at bext.text (time ++ last) 338 whole) ∙ u64-reads_back bext.time_reference last fits in
    rw (long, text, told)
