-- The file that a URL names.
use Rattle.std.specs.Prelude.{ℕ, ◌==◌, ◌&&◌, ◌||◌, not, Bool, List, [], ◌∷◌, length, take, drop, Option, None, Some, option_and_then, if◌then◌else◌, bytes_eq, codes}
use Rattle.std.specs.List.{list_any, after_last}
use Rattle.std.specs.Str.{str_to_ascii_lowercase, is_utf8}
use Rattle.percent_encoding.specs.Percent.{percent_decode}

-- The bytes begin with this text, in any case.
abbrev pub begins_with : List ℕ → List ℕ → Bool
begins_with text bytes = bytes_eq (str_to_ascii_lowercase (take (length text) bytes)) (str_to_ascii_lowercase text)

-- The bytes without this prefix, in any case, if they have it.
abbrev pub without : List ℕ → List ℕ → List ℕ
without text bytes = if begins_with text bytes then drop (length text) bytes else bytes

-- The byte `/`.
abbrev pub is_slash : ℕ → Bool
is_slash byte = byte == 47

-- Names that aren't files: the empty name, `.` and `..`.
abbrev pub is_dots : List ℕ → Bool
is_dots name = bytes_eq name [] || bytes_eq name (codes ".") || bytes_eq name (codes "..")

-- The bytes `/` and NUL.
abbrev pub is_slash_or_nul : ℕ → Bool
is_slash_or_nul byte = is_slash byte || byte == 0

-- A name that can only be a file in the folder: UTF-8, not empty, not `.` or `..`, without `/` or NUL.
abbrev pub is_media_name : List ℕ → Bool
is_media_name name =
    is_utf8 name && (not (is_dots name) && not (list_any is_slash_or_nul name))

-- A decoded path, and the name of its last component.
pub record Place : Type 0 where
  pub path : List ℕ
  pub name : List ℕ

-- The file path and name of an encoded path, if the name is valid.
abbrev pub place_of_path : List ℕ → Option Place
place_of_path path =
    let name = percent_decode (after_last is_slash path) in
    if is_media_name name then Some (record { path = percent_decode path; name = name }) else None

-- The bytes after the first occurrence of a byte.
abbrev pub behind_byte : ℕ → List ℕ → Option (List ℕ)
behind_byte sought [] = None
behind_byte sought (byte ∷ rest) = if byte == sought then Some rest else behind_byte sought rest

-- The path of a file URL: the part after `file://`, an authority and `/`, with an optional `URL:` in front.
abbrev pub path_of_url : List ℕ → Option (List ℕ)
path_of_url url =
    let file = without (codes "url:") url in
    if begins_with (codes "file://") file then behind_byte 47 (without (codes "file://") file) else None

-- The file path and name that a URL gives.
abbrev pub place_of_url : List ℕ → Option Place
place_of_url url = option_and_then place_of_path (path_of_url url)
