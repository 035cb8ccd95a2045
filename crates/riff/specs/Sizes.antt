-- Sizes of chunks, from the chunk header or from `ds64`.
use Rattle.std.specs.Prelude.{◌≡◌, ℕ, ◌+◌, List, take, drop, Option, None, Some, IfSome, Result, Ok, Err, MatchBool, option_map, find, bytes_eq}
use Rattle.std.specs.BTreeMap.{get, BTreeMap}
use Rattle.std.specs.Ordering.{nat_cmp}
use Rattle.byteorder.specs.Endian.{little_number}
use Rattle.sound_terms.specs.declared.Ds64.{Ds64}
use Rattle.sound_terms.specs.Chunks.{number_at, table_of}
use Rattle.work_terms.specs.Refusals.{is_excused}
use Rattle.riff.specs.declared.fault.MediaFault.{MediaFault}
use Rattle.riff.specs.declared.fault.MediaFault.TheVariants.{BadDs64}
use Rattle.riff.specs.declared.head.Head.{Head}
use Rattle.riff.specs.declared.entry.Entry.{Entry}
use Rattle.riff.specs.declared.sizes.Size.{Size}
use Rattle.riff.specs.declared.sizes.Size.TheVariants.{Told, InTable, Missing}
use Rattle.riff.specs.Fault.{number_of}
use Rattle.riff.specs.Found.{layout_by}
use Rattle.riff.specs.Ids.{IsId}

-- size in the first entry with this id, among the given number of entries at offset `at`
abbrev pub entry_from : List ℕ → ℕ → ℕ → List ℕ → Option ℕ
entry_from file at entries id =
    option_map (λ entry. entry.1) (find (λ entry. bytes_eq entry.0 id) (table_of entries (drop at file)))

-- size in the first table entry with this id
abbrev pub entry_size : List ℕ → ℕ → List ℕ → Option ℕ
entry_size file entries id = entry_from file 48 entries id

-- the map has the size in the first entry of each id, for the first `entries` entries of the table
abbrev pub IsIndexed : List ℕ → ℕ → BTreeMap ℕ ℕ → Type 0
IsIndexed file entries map =
    (id : List ℕ) → IsId id → get nat_cmp map (little_number 4 id) ≡ entry_size file entries id

-- number of entries of the table: 0 in RIFF
abbrev pub entries_of : Option Ds64 → ℕ
entries_of None = 0
entries_of (Some ds64) = ds64.entries

-- the index, if there is one, covers the whole table
abbrev pub IsIndexOf : List ℕ → Option Ds64 → Option (BTreeMap ℕ ℕ) → Type 0
IsIndexOf file sizes index = IfSome index (IsIndexed file (entries_of sizes))

-- the file has this entry at offset `at`
pub record HasEntry (file : List ℕ) (at : ℕ) (entry : Entry) : Type 0 where
  pub id : entry.id ≡ take 4 (drop at file)
  pub size : entry.size ≡ number_at 8 (at + 4) file

-- size of the chunk with this header
abbrev pub head_size : List ℕ → Option Ds64 → Head → Option ℕ
head_size file sizes head = (layout_by file sizes).size_of head.id head.size

-- the size is known, is to be looked up in the entries, or is missing
abbrev pub HasEntrySize : Option ℕ → ℕ → Size → Type 0
HasEntrySize size entries (Told n) = size ≡ Some n
HasEntrySize size entries (InTable n) = n ≡ entries
HasEntrySize size entries Missing = size ≡ None

-- the size of the chunk with this header is known, is to be looked up in the entries, or is missing
abbrev pub HasSize : List ℕ → Option Ds64 → Head → Size → Type 0
HasSize file sizes head (Told size) = head_size file sizes head ≡ Some size
HasSize file sizes head (InTable entries) = head_size file sizes head ≡ entry_size file entries head.id
HasSize file sizes head Missing = head_size file sizes head ≡ None

-- the result is the size, or an error if it is missing; an I/O error may replace both
abbrev pub TellsSize : List ℕ → Option Ds64 → Head → Result ℕ MediaFault → Type 0
TellsSize file sizes head (Ok size) = head_size file sizes head ≡ Some size
TellsSize file sizes head (Err fault) =
    MatchBool (is_excused (number_of fault)) (Unit {0}) ((fault ≡ BadDs64) × (head_size file sizes head ≡ None))
