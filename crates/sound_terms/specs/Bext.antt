-- The `bext` chunk of Broadcast Wave (EBU Tech 3285, 2.3). Numbers are little endian.
use Rattle.std.specs.Prelude.{ℕ, nat_le, List, ◌++◌, length, take, Option, None, Some, if◌then◌else◌}
use Rattle.sound_terms.specs.declared.Bext.{Bext}
use Rattle.sound_terms.specs.Chunks.{number_at}
use Rattle.sound_terms.specs.Waves.{u64_bytes, u16_bytes, zeros}

-- the text fields and the time reference in the contents of a `bext` chunk, or None if they are too short
abbrev pub bext_of : List ℕ → Option Bext
bext_of bytes = if nat_le 346 (length bytes)
    then Some (record { text = take 338 bytes; time_reference = number_at 8 338 bytes })
    else None

-- the 602 bytes before the CodingHistory: version 1 without UMID
unfoldable pub bext_bytes : Bext → List ℕ
bext_bytes bext = bext.text ++ (u64_bytes bext.time_reference ++ (u16_bytes 1 ++ zeros 254))
