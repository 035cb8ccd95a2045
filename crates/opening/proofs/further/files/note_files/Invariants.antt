use Rattle.std.proofs.Common.{List, ◌++◌, take}
use Rattle.list_terms.specs.Names.{Place}
use Rattle.opening.specs.Further.{places_of, used_of}
use Rattle.opening.specs.Paths.{Knows}
use Rattle.opening.proofs.further.files.note_files.Given as goal

-- the files of the sources so far are recorded
abbrev pub invariant-loop-source : goal.invariant-loop-source
invariant-loop-source l = (named : List Place) → Knows l.initial.paths named
    → Knows l.paths (named ++ places_of (used_of l.used (take l.source-index l.sources)))
