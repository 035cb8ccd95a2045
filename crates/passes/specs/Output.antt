-- The output of a pass and its marks.
use Rattle.std.specs.Prelude.{◌≡◌, List, Option, map}
use Rattle.std.specs.List.{fold}
use Rattle.sound_terms.specs.declared.piece.Piece.{Piece}
use Rattle.passes.specs.declared.ends.End.{End}
use Rattle.passes.specs.Ends.{flat_end, group_end}
use Rattle.passes.specs.declared.output.Output.{Output}

-- exactly the groups of one flat piece are marked, by their ends
abbrev pub HasFlatEnds : Output → Type 0
HasFlatEnds output = output.ends ≡ map flat_end output.groups.items

-- each group is marked by the end of its last piece
abbrev pub HasLastEnds : Output → Type 0
HasLastEnds output = output.ends ≡ map group_end output.groups.items

-- adding the waiting groups to the output yields `whole`, and each group of the output has its mark
abbrev pub IsPuttingOut : (put : List (List Piece) → List Piece → List (List Piece)) → (mark : List Piece → Option End)
    → (whole : List (List Piece)) → Output → (waiting : List (List Piece)) → Type 0
IsPuttingOut put mark whole output waiting =
    (fold put output.groups.items waiting ≡ whole) × (output.ends ≡ map mark output.groups.items)
