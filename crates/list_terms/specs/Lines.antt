-- The lines of a text.
use Rattle.std.specs.Prelude.{ℕ, ◌==◌, List, [], ◌∷◌, take, drop, map, if◌then◌else◌, bytes_eq}
use Rattle.std.specs.List.{onto_first}

-- The text without a CR at its end.
abbrev pub without_cr : List ℕ → List ℕ
without_cr [] = []
without_cr (byte ∷ []) = if byte == 13 then [] else byte ∷ []
without_cr (byte ∷ next ∷ rest) = byte ∷ without_cr (next ∷ rest)

-- The text split at each LF. An LF at the very end starts no further line.
unfoldable pub cut_lines : List ℕ → List (List ℕ)
cut_lines [] = []
cut_lines (byte ∷ rest) = if byte == 10 then [] ∷ cut_lines rest else onto_first byte (cut_lines rest)

-- The lines of a text without their ends. A line ends with LF, CR LF or the end of the text.
abbrev pub lines_in : List ℕ → List (List ℕ)
lines_in text = map without_cr (cut_lines text)

-- The byte order mark of UTF-8.
abbrev pub byte_order_mark : List ℕ
byte_order_mark = 239 ∷ 187 ∷ 191 ∷ []

-- The text without a leading byte order mark.
abbrev pub without_mark : List ℕ → List ℕ
without_mark text = if bytes_eq (take 3 text) byte_order_mark then drop 3 text else text

-- The lines of a list, after a byte order mark if there is one.
unfoldable pub lines_of : List ℕ → List (List ℕ)
lines_of text = lines_in (without_mark text)

-- The state of a line reader: the number of the last line read, and the lines after it.
pub record LinesLeft : Type 0 where
  pub number : ℕ
  pub lines : List (List ℕ)
