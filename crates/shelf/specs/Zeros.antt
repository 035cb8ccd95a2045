-- Model of the shelf with one file of zeros.
use Rattle.std.specs.Prelude.{ℕ, ◌-◌, if◌then◌else◌, Some, None, List, ◌++◌, length, replicate, string_bytes}
use Rattle.std.specs.Str.{bytes_eq}
use Rattle.work_terms.specs.Disk.{Files}
use Rattle.shelf.specs.declared.zeros.ZeroShelf.{ZeroShelf}

-- the first bytes, padded with zeros to a length
abbrev pub padded : List ℕ → ℕ → List ℕ
padded head n = head ++ replicate (n - length head) 0

-- the only file of a store
abbrev pub file_named : List ℕ → List ℕ → Files
file_named name bytes other = if bytes_eq other name then Some bytes else None

-- contents of the file of a shelf
abbrev pub zero_files : ZeroShelf → Files
zero_files shelf = file_named (string_bytes shelf.name) (padded shelf.head.items shelf.length)

-- number of failures of a shelf
abbrev pub zero_failures : ZeroShelf → ℕ
zero_failures shelf = shelf.failures
