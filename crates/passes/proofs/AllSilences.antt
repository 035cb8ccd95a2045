-- The silence flags of groups are those of their pieces.
use Rattle.std.proofs.Common.{◌≡◌, ◌∙◌, List, [], ◌∷◌, ◌++◌, refl, sym, ap}
use Rattle.std.specs.Prelude.{Bool}
use Rattle.std.specs.List.{flat_map}
use Rattle.sound_terms.specs.declared.piece.Piece.{Piece}
use Rattle.sound_terms.specs.Mix.{Reading}
use Rattle.sound_terms.specs.Groups.{pieces_of}
use Rattle.sound_terms.specs.Passes.{silences}
use Rattle.passes.specs.Silent.{is_silent_in, silences_of}

silences-append : (r : Reading) (a b : List Piece) → silences_of r (a ++ b) ≡ silences_of r a ++ silences_of r b
silences-append r [] b = refl
silences-append r (p ∷ ps) b = ap (λ (rest : List Bool). is_silent_in r p ∷ rest) (silences-append r ps b)

pub all_silences : (r : Reading) (groups : List (List Piece)) → flat_map (silences_of r) groups ≡ silences r groups
all_silences r [] = refl
all_silences r (group ∷ groups) =
    ap (λ (rest : List Bool). silences_of r group ++ rest) (all_silences r groups)
    ∙ sym (silences-append r group (pieces_of groups))
