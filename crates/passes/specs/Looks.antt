-- Effects of calls that read source samples.
use Rattle.std.specs.Prelude.{◌≡◌, ℕ, Bool, Result, IfErr, IsErrAnd}
use Rattle.work_terms.specs.Disk.{HasCause}
use Rattle.sound_terms.specs.Mix.{Reading}

module _ {P : Type 0} (reading : P → Reading) (honest : P → Bool) (failures : P → ℕ) (failed_at : P → ℕ → Type 0) where
  -- the call changes no sample, and a device failure is counted and recorded for its file
  pub record HasLooked (old new : P) (quiet device failed : Type 0) : Type 0 where
    pub same : reading new ≡ reading old
    pub honest_same : honest new ≡ honest old
    pub cause : HasCause (failures old) (failures new) quiet device
    pub keeps : (file : ℕ) → failed_at old file → failed_at new file
    pub failed_there : failed

  -- nothing has changed and nothing has failed so far
  pub record IsLookedAt (old new : P) : Type 0 where
    pub same : reading new ≡ reading old
    pub honest_same : honest new ≡ honest old
    pub quiet : failures new ≡ failures old
    pub keeps : (file : ℕ) → failed_at old file → failed_at new file

  -- effects of a call by its result; `is_device` selects the errors of devices and `names` the file they name
  abbrev pub LooksTo : {X E : Type 0} → P → P → Result X E → (E → Type 0) → (E → (ℕ → Type 0) → Type 0) → Type 0
  LooksTo old new result is_device names =
      HasLooked old new (IfErr result (λ fault. ¬ is_device fault)) (IsErrAnd result is_device)
      (IfErr result (λ fault. is_device fault → names fault (failed_at new)))
