-- Groups that remain after passes, as a function of the source samples.
use Rattle.std.proofs.Common.{◌≡◌, refl}
use Rattle.std.specs.Prelude.{ℕ, Bool, false, List, IsTrue}
use Rattle.std.specs.List.{list_any}
use Rattle.sound_terms.specs.declared.piece.Piece.{Piece}
use Rattle.sound_terms.specs.Mix.{Reading}
use Rattle.sound_terms.specs.Groups.{mix_of, reads}
use Rattle.sound_terms.specs.Passes.{in_turn, silences, standard_groups}
use Rattle.passes.specs.Keeping.{StayWhole}
use Rattle.passes.specs.Standard.{AreStandard}
use mathlib.Core.Path.{fun_ext}

-- a function from source samples and groups to the groups that remain
abbrev pub Leaving : Type 0
Leaving = Reading → List (List Piece) → List (List Piece)

-- the result of passes in order; each pass that needs the silence flags gets those of its input
abbrev pub left_by : {B : Type 0} → (looks : B → Bool) → (gives : B → List (List Piece) → List Bool → List (List Piece))
    → List B → Leaving
left_by looks gives passes reading groups = in_turn looks gives (silences reading) passes groups

-- `left` is an intermediate result: the passes in `rest` turn it into the result of all passes. It has the sum of the
-- given groups and reads no more samples. `unasked` holds if no pass needs the silence flags.
abbrev pub IsLeft : {B : Type 0} → Reading → (is_honest unasked : Type 0) → (looks : B → Bool)
    → (gives : B → List (List Piece) → List Bool → List (List Piece))
    → (passes rest : List B) → (groups left : List (List Piece)) → Type 0
IsLeft reading is_honest unasked looks gives passes rest groups left = record {
  given : is_honest → in_turn looks gives (silences reading) rest left
      ≡ in_turn looks gives (silences reading) passes groups;
  same_mix : is_honest → (channel time : ℕ) → mix_of reading left channel time ≡ mix_of reading groups channel time;
  whole : StayWhole groups left;
  no_more : (file channel frame : ℕ) → IsTrue (reads left file channel frame)
      → IsTrue (reads groups file channel frame);
  quiet : list_any looks passes ≡ false → (list_any looks rest ≡ false) × unasked;
}

-- four passes in the standard order produce the standard groups
pub standard_in_turn : {B : Type 0} (looks : B → Bool) (gives : B → List (List Piece) → List Bool → List (List Piece))
    (reading : Reading) (passes : List B) (groups : List (List Piece)) → AreStandard looks gives passes
    → in_turn looks gives (silences reading) passes groups ≡ standard_groups reading groups
standard_in_turn looks gives reading passes groups are =
    rw (are.are, are.splits, are.looking, are.leaves_out, are.joins, are.regroups) refl

-- the standard passes leave the standard groups
pub standard_left : {B : Type 0} (looks : B → Bool) (gives : B → List (List Piece) → List Bool → List (List Piece))
    (passes : List B) → AreStandard looks gives passes → left_by looks gives passes ≡ standard_groups
standard_left looks gives passes are =
    fun_ext (λ reading. fun_ext (λ groups. standard_in_turn looks gives reading passes groups are))
