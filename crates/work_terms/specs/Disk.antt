-- Named files on a disk: the effect of calls on the bytes read and on the contents that a crash may leave.
use Rattle.std.specs.Prelude.{◌≡◌, ◌≢◌, ◌⊎◌, ℕ, ◌+◌, ◌^◌, ◌<◌, ◌≤◌, max, Bool, IsTrue, Option, Some, None, List, [], ◌∷◌, ◌++◌, length, take, drop, Contains, Result, IfErr, IsErrAnd, OnErr, OnOk, ⊤}

-- contents of each file by name, or None if the file does not exist
abbrev pub Files : Type 0
Files = List ℕ → Option (List ℕ)

-- the file has these bytes at offset `at`, all within its length
pub record IsRange (stored : Option (List ℕ)) (at : ℕ) (bytes : List ℕ) : Type 0 where
  pub file : List ℕ
  pub there : stored ≡ Some file
  pub inside : at + length bytes ≤ length file
  pub same : bytes ≡ take (length bytes) (drop at file)

-- length of the file, or 0 if it does not exist
abbrev pub end_of : Option (List ℕ) → ℕ
end_of None = 0
end_of (Some file) = length file

-- the file is empty or does not exist
abbrev pub IsEmptyOrAbsent : Option (List ℕ) → Type 0
IsEmptyOrAbsent file = (file ≡ None) ⊎ (file ≡ Some [])

-- one file changes by the given step, and no other file changes
pub record Changes (step : Option (List ℕ) → Option (List ℕ) → Type 0) (name : List ℕ) (old new : Files) : Type 0 where
  pub here : step (old name) (new name)
  pub others : (n : List ℕ) → n ≢ name → new n ≡ old n

-- no file changes except those with these names
abbrev pub ChangesOnly : List (List ℕ) → Files → Files → Type 0
ChangesOnly names old new = (n : List ℕ) → ¬ Contains names n → new n ≡ old n

-- the file was created or truncated to zero length
abbrev pub IsCreated : Option (List ℕ) → Option (List ℕ) → Type 0
IsCreated old new = new ≡ Some []

-- result of a failed create: the file is unchanged or empty
abbrev pub MayBeCreated : Option (List ℕ) → Option (List ℕ) → Type 0
MayBeCreated old new = (new ≡ old) ⊎ (new ≡ Some [])

-- result of a crash during an unsynced create: the old contents, an empty file or no file
abbrev pub IsPending : Option (List ℕ) → Option (List ℕ) → Type 0
IsPending old new = (new ≡ old) ⊎ IsEmptyOrAbsent new

-- the bytes are written at offset `at` within the file, and the rest is unchanged
pub record IsWritten (at : ℕ) (bytes : List ℕ) (old new : Option (List ℕ)) : Type 0 where
  pub file : List ℕ
  pub there : old ≡ Some file
  pub inside : at + length bytes ≤ length file
  pub written : new ≡ Some (take at file ++ (bytes ++ drop (at + length bytes) file))

-- the bytes are appended to the file
pub record IsAppended (bytes : List ℕ) (old new : Option (List ℕ)) : Type 0 where
  pub file : List ℕ
  pub there : old ≡ Some file
  pub appended : new ≡ Some (file ++ bytes)

-- the file exists before and after and its contents satisfy the relation, or it exists neither before nor after
abbrev pub OfFile : (List ℕ → List ℕ → Type 0) → Option (List ℕ) → Option (List ℕ) → Type 0
OfFile step None new = new ≡ None
OfFile step (Some old) new = (file : List ℕ) × (new ≡ Some file) × step old file

-- the n bytes from offset `at` on are arbitrary, the other bytes and the length are unchanged
pub record HasTornRange (at n : ℕ) (old new : List ℕ) : Type 0 where
  pub before : take at new ≡ take at old
  pub after : drop (at + n) new ≡ drop (at + n) old
  pub same_length : length new ≡ length old

-- the n bytes from offset `at` on are arbitrary, the other bytes are unchanged, and the file may have grown up to the
-- end of the n bytes
pub record HasTornEnd (at n : ℕ) (old new : List ℕ) : Type 0 where
  pub before : take at new ≡ take at old
  pub after : drop (at + n) new ≡ drop (at + n) old
  pub no_shorter : length old ≤ length new
  pub no_longer : length new ≤ max (length old) (at + n)

-- result of a failed or interrupted write of n bytes at offset `at`
abbrev pub IsTorn : ℕ → ℕ → Option (List ℕ) → Option (List ℕ) → Type 0
IsTorn at n = OfFile (HasTornRange at n)

-- result of a failed append of n bytes: at most n arbitrary bytes are added
abbrev pub IsGrown : ℕ → Option (List ℕ) → Option (List ℕ) → Type 0
IsGrown n = OfFile (λ old new. (more : List ℕ) × (length more ≤ n) × (new ≡ old ++ more))

-- result of an append of n bytes to a file of length `at` that a crash interrupted
abbrev pub IsTornBehind : ℕ → ℕ → Option (List ℕ) → Option (List ℕ) → Type 0
IsTornBehind at n = OfFile (HasTornEnd at n)

-- each new crash outcome follows from an old crash outcome by one step
abbrev pub Follows : (Files → Files → Type 0) → (Files → Type 0) → (Files → Type 0) → Type 0
Follows step old new = (c : Files) → new c → (d : Files) × old d × step d c

-- a crash leaves the file with the contents that reads return
abbrev pub IsDurable : List ℕ → Files → (Files → Type 0) → Type 0
IsDurable name stored may_leave = (c : Files) → may_leave c → c name ≡ stored name

-- nothing is pending for the file: it is durable, or it does not exist and a crash leaves no file or an empty one
abbrev pub IsSettled : List ℕ → Files → (Files → Type 0) → Type 0
IsSettled name stored may_leave =
    IsDurable name stored may_leave
    ⊎ ((stored name ≡ None) × ((c : Files) → may_leave c → IsEmptyOrAbsent (c name)))

-- Time passes: a crash since t may leave an outcome that was possible before or one that is possible now.
pub record Elapses (before now : ℕ) (past since : ℕ → Files → Type 0) (may_leave : Files → Type 0) : Type 0 where
  pub later : before ≤ now
  pub nothing_else : (t : ℕ) (c : Files) → t ≤ before → since t c → past t c ⊎ may_leave c
  pub keeps : (t : ℕ) (c : Files) → t ≤ before → past t c → since t c

-- A crash at any moment since `old` leaves files with property P.
pub record LeavesOnly {D : Type 0} (moment : D → ℕ) (left_since : D → ℕ → Files → Type 0) (old new : D)
    (P : Files → Type 0) : Type 0 where
  pub later : moment old ≤ moment new
  pub each : (c : Files) → left_since new (moment old) c → P c
  -- for an observation that began earlier
  pub before : (t : ℕ) (c : Files) → t ≤ moment old → left_since new t c → left_since old t c ⊎ P c

-- nothing was written: reads and the possible outcomes of a crash at any moment are unchanged
pub record IsUntouched {D : Type 0} (stored : D → Files) (may_leave : D → Files → Type 0) (moment : D → ℕ)
    (left_since : D → ℕ → Files → Type 0) (old new : D) : Type 0 where
  pub reads : stored new ≡ stored old
  pub crash : (c : Files) → may_leave new c → may_leave old c
  pub moments : LeavesOnly moment left_since old new (may_leave old)

-- the outcome equals one of the given outcomes except for the named file
abbrev pub IsBeside : (Files → Type 0) → List ℕ → Files → Type 0
IsBeside outcomes name c = (d : Files) × outcomes d × ChangesOnly (name ∷ []) d c

-- a crash at any moment since `old` leaves every file except the named one as a crash before could have left it
pub record LeavesOthers {D : Type 0} (may_leave : D → Files → Type 0) (moment : D → ℕ)
    (left_since : D → ℕ → Files → Type 0) (name : List ℕ) (old new : D) : Type 0 where
  pub now : (c : Files) → may_leave new c → IsBeside (may_leave old) name c
  pub moments : LeavesOnly moment left_since old new (IsBeside (may_leave old) name)

-- the failure count has increased, unless it was already at its maximum
pub record Rises (before now : ℕ) : Type 0 where
  pub later : before ≤ now
  pub rose : before + 1 < 2 ^ 64 → before < now

-- a result without a device fault leaves the failure count unchanged, a device fault increases it
pub record HasCause (before now : ℕ) (quiet device : Type 0) : Type 0 where
  pub later : before ≤ now
  pub left : quiet → now ≡ before
  pub rose : device → before + 1 < 2 ^ 64 → before < now

-- Effect of a read-only call on a store, and the results that report a device fault.
module _ {S : Type 0} (stored : S → Files) (honest : S → Bool) (failures : S → ℕ) (failed_at : S → List ℕ → Type 0)
  where
    -- nothing was written, honesty is unchanged, and a failure is recorded for its file
    pub record HasRead (old new : S) (quiet device failed : Type 0) : Type 0 where
      pub same : stored new ≡ stored old
      pub honest_same : honest new ≡ honest old
      pub cause : HasCause (failures old) (failures new) quiet device
      pub keeps : (n : List ℕ) → failed_at old n → failed_at new n
      pub failed_there : failed

    -- nothing was written and no failure was recorded
    pub record IsKept (old new : S) : Type 0 where
      pub same : stored new ≡ stored old
      pub honest_same : honest new ≡ honest old
      pub quiet : failures new ≡ failures old
      pub keeps : (n : List ℕ) → failed_at old n → failed_at new n

    -- effect of a read-only call by its result: `is_device` selects the faults that report a failure, `names` the files
    -- concerned
    abbrev pub ReadsTo : {X E : Type 0} → S → S → Result X E → (E → Type 0) → (E → (List ℕ → Type 0) → Type 0) → Type 0
    ReadsTo old new result is_device names =
        HasRead old new (IfErr result (λ fault. ¬ is_device fault)) (IsErrAnd result is_device)
        (IfErr result (λ fault. is_device fault → names fault (failed_at new)))

-- Effect of a writing call on a store: certain files keep their contents and their durability.
module _ {S : Type 0} (stored : S → Files) (honest : S → Bool) (failures : S → ℕ) (failed_at : S → List ℕ → Type 0)
    (may_leave : S → Files → Type 0) where
  -- the files in `stays` are unchanged, honesty is unchanged, and a failure is recorded for its file
  pub record HasWritten (stays : List ℕ → Type 0) (old new : S) (quiet device failed : Type 0) : Type 0 where
    pub others : IsTrue (honest old) → (n : List ℕ) → stays n → stored new n ≡ stored old n
    pub durable : IsTrue (honest old) → (n : List ℕ) → stays n → IsDurable n (stored old) (may_leave old)
        → IsDurable n (stored new) (may_leave new)
    pub honest_same : honest new ≡ honest old
    pub cause : HasCause (failures old) (failures new) quiet device
    pub keeps : (n : List ℕ) → failed_at old n → failed_at new n
    pub failed_there : failed

  -- the files in `stays` are unchanged and no failure was recorded
  pub record IsExtended (stays : List ℕ → Type 0) (old new : S) : Type 0 where
    pub others : IsTrue (honest old) → (n : List ℕ) → stays n → stored new n ≡ stored old n
    pub durable : IsTrue (honest old) → (n : List ℕ) → stays n → IsDurable n (stored old) (may_leave old)
        → IsDurable n (stored new) (may_leave new)
    pub honest_same : honest new ≡ honest old
    pub quiet : failures new ≡ failures old
    pub keeps : (n : List ℕ) → failed_at old n → failed_at new n

  -- effect by its result of a call that may change every file not in `stays`
  abbrev pub WritesTo : {X E : Type 0} → (List ℕ → Type 0) → S → S → Result X E → (E → Type 0)
      → (E → (List ℕ → Type 0) → Type 0) → Type 0
  WritesTo stays old new result is_device names =
      HasWritten stays old new (IfErr result (λ fault. ¬ is_device fault)) (IsErrAnd result is_device)
      (IfErr result (λ fault. is_device fault → names fault (failed_at new)))

-- Effect on an output of appending a text to a file, possibly in several writes.
module _ {B : Type 0} (stored : B → Files) (honest : B → Bool) (failures : B → ℕ) (failed_at : B → List ℕ → Type 0)
    (may_leave : B → Files → Type 0) (moment : B → ℕ) (left_since : B → ℕ → Files → Type 0) (name text : List ℕ) where
  -- a crash leaves the files as it could have before, except that on an honest store this file may end with at most
  -- `length text` arbitrary bytes
  abbrev pub MayBeTorn : B → Files → Type 0
  MayBeTorn old c =
      (d : Files) × may_leave old d
      × Changes (λ before after. IsTrue (honest old)
      → IsTornBehind (end_of (stored old name)) (length text) before after) name d c

  -- effect of appending the text, by the result of the call
  pub record HasAppended {X E : Type 0} (old new : B) (result : Result X E) : Type 0 where
    pub appended : IsTrue (honest old)
        → OnOk result (OfFile (λ before after. after ≡ before ++ text) (stored old name) (stored new name))
    pub unfinished : IsTrue (honest old)
        → OnErr result (IsGrown (length text) (stored old name) (stored new name))
    pub crash : (c : Files) → may_leave new c → MayBeTorn old c
    pub moments : LeavesOnly moment left_since old new (MayBeTorn old)
    pub only_writes : WritesTo stored honest failures failed_at may_leave (λ n. n ≢ name) old new result (λ _. ⊤)
        (λ _ failed. failed name)
