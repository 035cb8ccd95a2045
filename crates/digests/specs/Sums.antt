-- Checksum files in the format of `sha256sum -c`.
use Rattle.std.specs.Prelude.{ℕ, List, [], ◌∷◌, ◌++◌, codes}
use Rattle.std.specs.List.{flat_map}
use Rattle.hex.specs.Hex.{encode_lower}
use Rattle.sha2.specs.Sha256.{sha256}
use Rattle.list_terms.specs.Renewed.{media_name}
use Rattle.digests.specs.declared.medium.Medium.{Medium}

-- a line: the digest in hexadecimal, two spaces, the file name
abbrev pub sum_line : (digest name : List ℕ) → List ℕ
sum_line digest name = encode_lower digest ++ (codes "  " ++ (name ++ 10 ∷ []))

-- the line of a medium
abbrev pub medium_line : Medium → List ℕ
medium_line medium = sum_line medium.digest (media_name medium.number)

-- the lines of all media, then of the list and the report with these texts
abbrev pub sums_of : List Medium → (list json : List ℕ) → List ℕ
sums_of media list json =
    flat_map medium_line media
    ++ (sum_line (sha256 list) (codes "consolidated.adl") ++ sum_line (sha256 json) (codes "consolidated.json"))
