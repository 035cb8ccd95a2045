-- Reading the lines of a section, one after another.
use Rattle.std.proofs.Common.{ℕ, ◌≡◌, List, [], ◌∷◌, Result, Ok, refl}
use Rattle.list_terms.specs.declared.Section.{Section}
use Rattle.list_terms.specs.Steps.{◌>>=◌}
use Rattle.list_terms.specs.Text.{Context, LocatedFault, in_section}
use Rattle.adlread.specs.CutLines.{NumberedLine}

module _ (rate : ℕ) where
  abbrev pub walk : Section → Context → List NumberedLine → Result Context LocatedFault
  walk section c [] = Ok c
  walk section c (line ∷ lines) = in_section rate c line.number line.text section >>= (λ next. walk section next lines)

  pub walk_step :
      (section : Section) (c next : Context) (line : NumberedLine) (lines : List NumberedLine)
      → in_section rate c line.number line.text section ≡ Ok next → walk section c (line ∷ lines) ≡ walk section next lines
  walk_step section c next line lines e = rw e refl
