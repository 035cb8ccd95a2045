-- Chains of steps that can fail.
use Rattle.std.specs.Prelude.{Result, Ok, Err}
pub use Rattle.sound_terms.specs.Steps.{◌>>=◌}

-- The result with its value mapped.
abbrev pub ok_map : {A B E : Type 0} → (A → B) → Result A E → Result B E
ok_map f (Ok x) = Ok (f x)
ok_map f (Err e) = Err e

-- The result with its fault mapped.
abbrev pub err_map : {A D E : Type 0} → (D → E) → Result A D → Result A E
err_map f (Ok x) = Ok x
err_map f (Err e) = Err (f e)
