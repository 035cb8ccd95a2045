-- The files that a command was given, by identity.
use Rattle.std.specs.Prelude.{Bool}
use Rattle.std.specs.declared.cmp.Ordering.{Ordering}
use Rattle.std.specs.Ordering.{nat_cmp, ordering_then}
use Rattle.std.specs.BTreeSet.{contains}
use Rattle.shelf.specs.declared.folder.identity.Identity.{Identity}
use Rattle.shelf.specs.declared.folder.given.GivenFiles.{GivenFiles}

-- the order of identities: by device, then by inode number
abbrev pub identity_cmp : Identity → Identity → Ordering
identity_cmp a b = ordering_then (nat_cmp a.device b.device) (nat_cmp a.number b.number)

-- whether the table has this file
abbrev pub is_given : GivenFiles → Identity → Bool
is_given given file = contains identity_cmp given.known file
