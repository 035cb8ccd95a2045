-- The states that a crash may leave of an append-only text.
use Rattle.std.specs.Prelude.{◌≡◌, ℕ, ◌≤◌, Bool, false, ◌==◌, if◌then◌else◌, Some, None, List, [], ◌∷◌, length}
use Rattle.std.proofs.Common.{refl, ap, inl, sym, arith}
use Rattle.std.proofs.lemmas.Bool.Decides.{nat_tests}
use Rattle.std.proofs.lemmas.Option.{none-some}
use Rattle.work_terms.specs.Disk.{Files, IsEmptyOrAbsent}

-- A crash leaves a text that is no longer, under the empty name, and no other file.
pub record IsLeftText (text : List ℕ) (c : Files) : Type 0 where
  pub left : List ℕ
  pub there : c [] ≡ Some left
  pub no_longer : length left ≤ length text
  pub alone : (first : ℕ) (rest : List ℕ) → c (first ∷ rest) ≡ None

-- No file has another name.
pub none_there : (text : List ℕ) (first : ℕ) (rest : List ℕ)
    → (if length (first ∷ rest) == 0 then Some text else None) ≡ None
none_there text first rest =
    let named : (length (first ∷ rest) == 0) ≡ false = grind (arith, nat_tests) in
    ap (λ (empty : Bool). if empty then Some text else None) named

-- A crash may leave the whole text.
pub left_whole : (text : List ℕ) → IsLeftText text (λ name. if length name == 0 then Some text else None)
left_whole text = record { left = text; there = refl; no_longer = omega arith; alone = λ first rest. none_there text first rest }

-- If no text is stored under a name, none is left there.
pub left_nothing : (text name : List ℕ) (c : Files) → (if length name == 0 then Some text else None) ≡ None
    → IsLeftText text c → IsEmptyOrAbsent (c name)
left_nothing text [] c none left = absurd (none-some text (sym none))
left_nothing text (first ∷ rest) c none left = inl (left.alone first rest)
