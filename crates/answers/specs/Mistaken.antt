-- Why words are answered 2, and nothing is done.
use Rattle.std.specs.Prelude.{◌≡◌, ◌⊎◌, ℕ, false, List, [], ◌∷◌, ◌++◌, Some, None, codes}
use Rattle.clap.specs.Walk.{Text}
use Rattle.commandline.specs.CommandLine.{Asked, asks_for_help_alone, request_of}
use Rattle.console.specs.declared.console.Console as console
use Rattle.verdicts.specs.Verdicts.{Tells}

-- the line that stands where no memory was left to read the words
abbrev pub no_memory_line : List ℕ
no_memory_line = codes "error: out of memory" ++ 10 ∷ []

-- The words ask for nothing, and not for help alone; or what they ask for can't be done; or no memory was left to read
-- them, and just that line was printed on standard error.
abbrev pub AreMistaken : {E : Type 0} → (CantBeDone : Asked → Type 0) → List Text → console.Ghosts E → (old new : E)
    → Type 0
AreMistaken CantBeDone words err old new =
    ((request_of words ≡ None) × (asks_for_help_alone words ≡ false))
    ⊎ (((asked : Asked) × (request_of words ≡ Some asked) × CantBeDone asked) ⊎ Tells err old new no_memory_line)
