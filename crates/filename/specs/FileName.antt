-- Names of files directly inside a folder.
use Rattle.std.specs.Prelude.{◌≡◌, ℕ, Bool, false, not, ◌&&◌, ◌||◌, ◌==◌, List, [], codes, Result, IsErr}
use Rattle.std.specs.Str.{bytes_eq}
use Rattle.std.specs.List.{list_all}

-- the name is empty, `.` or `..`
abbrev pub is_dots : List ℕ → Bool
is_dots name = bytes_eq name [] || bytes_eq name (codes ".") || bytes_eq name (codes "..")

-- the byte is neither a slash nor NUL
abbrev pub is_file_name_byte : ℕ → Bool
is_file_name_byte byte = not (byte == 47) && not (byte == 0)

-- the name is valid for a file directly inside a folder
abbrev pub is_file_name : List ℕ → Bool
is_file_name name = not (is_dots name) && list_all is_file_name_byte name

-- the call fails if the name is not valid
abbrev pub RefusesName : {X E : Type 0} → List ℕ → Result X E → Type 0
RefusesName name result = is_file_name name ≡ false → IsErr result
