-- The explanation of a fault as a JSON value (RFC 8259).
use Rattle.std.specs.Prelude.{List, [], ◌∷◌, Option, None, Some, Vec, string_bytes}
use Rattle.std.specs.declared.alloc.Global.{Global}
use Rattle.serde_json.specs.Data.{Data, null, number, unsigned, string, object, Members, member, no_members}
use Rattle.checkreport.specs.declared.explained.Member.{Member}
use Rattle.checkreport.specs.declared.explained.Value.{Value}
use Rattle.checkreport.specs.declared.explained.Value.TheVariants.{Nothing, Count, Text}

-- a member value as JSON
abbrev pub value_data : Value → Data
value_data Nothing = null
value_data (Count count) = number (unsigned count)
value_data (Text text) = string (string_bytes text)

-- the members of an object, in order
abbrev pub members_of : List Member → Members
members_of [] = no_members
members_of (one ∷ more) = member one.name.now (value_data one.value) (members_of more)

-- an object with these members, or null
abbrev pub explained_data : Option (Vec Member Global) → Data
explained_data None = null
explained_data (Some members) = object (members_of members.items)
