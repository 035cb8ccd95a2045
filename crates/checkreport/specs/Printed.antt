-- The text in which a report is printed: JSON without spaces (RFC 8259), in which every character of a string is visible.
use Rattle.std.specs.Prelude.{ℕ, ◌/◌, ◌%◌, Bool, true, false, ◌&&◌, List, [], ◌∷◌, ◌++◌, if◌then◌else◌, nat_le, encode_utf8}
use Rattle.std.specs.List.{flat_map}
use Rattle.std.specs.Char.{digit_char}
use Rattle.std.specs.Char.Escape.{encode_utf16}
use Rattle.std.specs.Str.{chars}
use Rattle.json.specs.Print.{escape, quoted, token_text}
use Rattle.json.specs.Token.{Token}
use Rattle.serde_json.specs.Data.{Data, null, boolean, number, string, array, object, Items, no_items, item, Members, no_members, member}
use Rattle.serde_json.specs.Written.{comma_if, number_text}
use Rattle.console.specs.Lines.{is_unseen}

-- a UTF-16 code unit as an escape (section 7)
abbrev pub unit_escape : ℕ → List ℕ
unit_escape unit =
    92 ∷ 117 ∷ digit_char (unit / 4096 % 16) ∷ digit_char (unit / 256 % 16) ∷ digit_char (unit / 16 % 16)
    ∷ digit_char (unit % 16) ∷ []

-- an invisible character from U+0020 on as the escapes of its UTF-16 code units, any other with the escapes it must have
abbrev pub printed_in_string : ℕ → List ℕ
printed_in_string character =
    if nat_le 32 character && is_unseen character then flat_map unit_escape (encode_utf16 character)
    else escape (encode_utf8 character)

-- a text as a string
abbrev pub printed_string : List ℕ → List ℕ
printed_string text = 34 ∷ (flat_map printed_in_string (chars text) ++ 34 ∷ [])

-- a value that has no float; the names of its members are ASCII
abbrev mutual
  pub printed_text : Data → List ℕ
  printed_text null = token_text Token.null
  printed_text (boolean b) = token_text (Token.boolean b)
  printed_text (number n) = number_text n
  printed_text (string text) = printed_string text
  printed_text (array items) = 91 ∷ printed_items false items
  printed_text (object members) = 123 ∷ printed_members false members

  -- with the closing bracket
  pub printed_items : (is_later : Bool) → Items → List ℕ
  printed_items is_later no_items = 93 ∷ []
  printed_items is_later (item value more) = comma_if is_later ++ (printed_text value ++ printed_items true more)

  pub printed_members : (is_later : Bool) → Members → List ℕ
  printed_members is_later no_members = 125 ∷ []
  printed_members is_later (member name value more) =
      comma_if is_later ++ (quoted name ++ 58 ∷ (printed_text value ++ printed_members true more))
