-- Terminals before and after a call.
use Rattle.std.specs.Prelude.{◌≡◌}
use Rattle.asides.specs.declared.terminal.Terminal.{Terminal}

-- the consoles of the terminal are the same ones
abbrev pub GivesBack : {O E M A : Type 0} → (old new : Terminal O E M A) → Type 0
GivesBack old new = (new.out.ghost_name ≡ old.out.ghost_name) × (new.err.ghost_name ≡ old.err.ghost_name)

-- the consoles are the same ones, and nothing was printed on standard output
abbrev pub KeepsOutput : {O E M A : Type 0} → (old new : Terminal O E M A) → Type 0
KeepsOutput old new = GivesBack old new × (new.out.now ≡ old.out.now)
