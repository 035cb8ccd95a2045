-- Which of the reasons it is where clap gives an error.
use Rattle.std.proofs.Common.{◌≡◌, ◌⊎◌, ℕ, Bool, true, false, List, None, inl, inr, refl}
use Rattle.clap.specs.Walk.{Text}
use Rattle.clap.specs.declared.error.ErrorKind.{ErrorKind}
use Rattle.clap.specs.declared.error.ErrorKind.TheVariants.{OutOfMemory}
use Rattle.commandline.specs.CommandLine.{Asked, asks_for_help_alone, is_shown, request_of}
use Rattle.console.specs.declared.console.Console as console
use Rattle.verdicts.specs.Verdicts.{Tells}
use Rattle.answers.specs.Mistaken.{AreMistaken, no_memory_line}

-- of words that ask for nothing
wordless : {E : Type 0} (CantBeDone : Asked → Type 0) (words : List Text) (err : console.Ghosts E) (old new : E)
    (kind : ErrorKind) (status : ℕ) (is_help : Bool) → asks_for_help_alone words ≡ is_help → request_of words ≡ None
    → (asks_for_help_alone words ≡ true → (kind ≡ OutOfMemory) ⊎ (is_shown kind ≡ true))
    → (is_shown kind ≡ true → status ≡ 0) → (kind ≡ OutOfMemory → Tells err old new no_memory_line) → status ≡ 2
    → AreMistaken CantBeDone words err old new
wordless CantBeDone words err old new kind status true is none alone shown ran_out two = elim (alone is) [
  | inl memory ↦ inr (inr (ran_out memory))
  | inr help ↦ absurd (let zero : status ≡ 0 = shown help in cc)
]
wordless CantBeDone words err old new kind status false is none alone shown ran_out two = inl (none, is)

-- of words for which clap gives an error of this kind
pub mistaken_words : {E : Type 0} (CantBeDone : Asked → Type 0) (words : List Text) (err : console.Ghosts E)
    (old new : E) (kind : ErrorKind) (status : ℕ) → (kind ≡ OutOfMemory) ⊎ (request_of words ≡ None)
    → (asks_for_help_alone words ≡ true → (kind ≡ OutOfMemory) ⊎ (is_shown kind ≡ true))
    → (is_shown kind ≡ true → status ≡ 0) → (kind ≡ OutOfMemory → Tells err old new no_memory_line) → status ≡ 2
    → AreMistaken CantBeDone words err old new
mistaken_words CantBeDone words err old new kind status (inl memory) alone shown ran_out two = inr (inr (ran_out memory))
mistaken_words CantBeDone words err old new kind status (inr none) alone shown ran_out two =
    wordless CantBeDone words err old new kind status (asks_for_help_alone words) refl none alone shown ran_out two
