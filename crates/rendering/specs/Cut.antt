-- Blocks cut into stretches.
use Rattle.std.specs.Prelude.{◌≡◌, ◌≢◌, ℕ, ◌+◌, ◌-◌, ◌*◌, ◌/◌, ◌<◌, ◌≤◌, Bool, false, cond, nat_le, max, min, List, [], ◌∷◌, ◌++◌, Vec, length, slice_index_or}
use Rattle.std.specs.List.{All}
use Rattle.std.specs.declared.alloc.Global.{Global}
use Rattle.rendering.specs.declared.job_length.JobLength.{JobLength}
use Rattle.rendering.specs.declared.job_length.JobLength.TheVariants as length_of_jobs
use Rattle.rendering.specs.declared.stretch.Stretch.{Stretch}
use Rattle.execution.specs.Together.{IsFirst}

-- what stands behind the last stretch
abbrev pub no_stretch : Stretch
no_stretch = record { first = 0; end = 0; done = false; group = 0 }

abbrev pub stretch_at : List Stretch → ℕ → Stretch
stretch_at stretches k = slice_index_or stretches k no_stretch

-- the first of those that are marked together with a stretch
abbrev pub group_at : List Stretch → ℕ → ℕ
group_at stretches k = (stretch_at stretches k).group

-- the stretches follow one another, from one block on up to, and without, another; each has at least one block
abbrev pub IsCut : ℕ → List Stretch → ℕ → Type 0
IsCut from [] to = from ≡ to
IsCut from (s ∷ stretches) to = (s.first ≡ from) × (s.first < s.end) × IsCut s.end stretches to

-- none of its blocks is done
abbrev pub IsFresh : Stretch → Type 0
IsFresh s = s.done ≡ false

-- it has at most so many blocks
abbrev pub IsShort : ℕ → Stretch → Type 0
IsShort most s = s.end - s.first ≤ most

-- none of them has more
abbrev pub AreShort : ℕ → Vec Stretch Global → Type 0
AreShort most stretches = All (IsShort most) stretches.items

-- the stretch of this number, counted from 0, where each but the last has so many blocks
pub record IsEven (most to k : ℕ) (s : Stretch) : Type 0 where
  pub first : s.first ≡ k * most
  pub end : s.end ≡ min (k * most + most) to
  pub fresh : s.done ≡ false

-- these are the first of them
abbrev pub AreEven : (most to : ℕ) → List Stretch → Type 0
AreEven most to stretches = (k : ℕ) → k < length stretches → IsEven most to k (stretch_at stretches k)

-- It goes by the number of the first stretch of those that are marked together with it, which are at most so many. All
-- between are marked with it, and all are done or none. The next one is too if it is done as this one is and they are
-- fewer than so many.
pub record IsGrouped (most : ℕ) (stretches : List Stretch) (k : ℕ) : Type 0 where
  pub first : IsFirst (group_at stretches) k
  pub few : k < group_at stretches k + most
  pub alike : (j : ℕ) → group_at stretches k ≤ j → j ≤ k → (stretch_at stretches j).done ≡ (stretch_at stretches k).done
  pub goes_on : k + 1 < length stretches → (stretch_at stretches (k + 1)).done ≡ (stretch_at stretches k).done
      → k + 1 < group_at stretches k + most → group_at stretches (k + 1) ≡ group_at stretches k

abbrev pub AreGrouped : ℕ → List Stretch → Type 0
AreGrouped most stretches = (k : ℕ) → k < length stretches → IsGrouped most stretches k

-- the last of those that follow a stretch in turn and are marked together with it
pub record IsLastWith (stretches : List Stretch) (k last : ℕ) : Type 0 where
  pub behind : k ≤ last
  pub there : last < length stretches
  pub with : group_at stretches last ≡ group_at stretches k
  pub ends : last + 1 < length stretches → group_at stretches (last + 1) ≢ group_at stretches k

-- by this number goes one more behind these, which is done or not
abbrev pub IsNextGroup : ℕ → List Stretch → Bool → ℕ → Type 0
IsNextGroup most stretches done group =
    (s : Stretch) → s.done ≡ done → s.group ≡ group → AreGrouped most (stretches ++ s ∷ [])

-- those that are marked together have at most 2048 blocks
pub record AreFewTogether (stretches : List Stretch) : Type 0 where
  pub together : ℕ
  pub grouped : AreGrouped together stretches
  pub most : ℕ
  pub short : All (IsShort most) stretches
  pub few : together * most ≤ 2048

-- the stretch is done where its blocks are marked, all or none
abbrev pub IsUniform : List Bool → Stretch → Type 0
IsUniform marked s = (b : ℕ) → s.first ≤ b → b < s.end → slice_index_or marked b false ≡ s.done

-- none of them could go on: what follows one that isn't full is marked otherwise
abbrev pub AreLongest : ℕ → List Stretch → Type 0
AreLongest most stretches = (k : ℕ) (d : Stretch) → k + 1 < length stretches
    → (slice_index_or stretches k d).done ≡ (slice_index_or stretches (k + 1) d).done
    → (slice_index_or stretches k d).end - (slice_index_or stretches k d).first ≡ most

-- of how many blocks of so many bytes the marks are set together: of one; or, for speed, where there are more than 64, of
-- a thirty-second of them, but of at most 16 MiB, and at least 2 MiB and one block
abbrev pub blocks_together : JobLength → (blocks block_size : ℕ) → ℕ
blocks_together length_of_jobs.OneBlock blocks block_size = 1
blocks_together length_of_jobs.Longer blocks block_size =
    cond (nat_le blocks 64) 1 (max (max (min (blocks / 32) (16777216 / block_size)) (2097152 / block_size)) 1)

-- how many of these a job has: as many as make 768 KiB, and at least one; more where there were more than 65,536 jobs
abbrev pub blocks_in_job : JobLength → (blocks block_size : ℕ) → ℕ
blocks_in_job jobs blocks block_size =
    min (blocks_together jobs blocks block_size) (max (max (786432 / block_size) (blocks / 65536)) 1)

-- so many jobs have these blocks
abbrev pub jobs_together : JobLength → (blocks block_size : ℕ) → ℕ
jobs_together jobs blocks block_size =
    blocks_together jobs blocks block_size / blocks_in_job jobs blocks block_size
