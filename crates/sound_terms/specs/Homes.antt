-- Home index of each file, as a table by file number.
use Rattle.std.specs.Prelude.{◌≡◌, ◌≢◌, ℕ, ◌+◌, ◌<◌, ◌≤◌, Bool, List, Contains, Some, slice_get, option_map, unwrap_or}
use Rattle.sampletime.specs.TimeCode.{day}
use Rattle.sound_terms.specs.declared.piece.Home.{Home}
use Rattle.sound_terms.specs.declared.piece.Run.{Run}
use Rattle.sound_terms.specs.declared.piece.Piece.{Piece}
use Rattle.sound_terms.specs.Kept.{is_kept, HasFrame}
use Rattle.sound_terms.specs.Groups.{pieces_of}

-- number of addressable sample frames of a file, from the first on; 0 without a home
abbrev pub addressable_by : List Home → ℕ → ℕ
addressable_by homes file = unwrap_or (option_map (λ home. home.addressable) (slice_get homes file)) 0

-- time of the first sample of a file
abbrev pub base_by : List Home → ℕ → ℕ
base_by homes file = unwrap_or (option_map (λ home. home.base) (slice_get homes file)) 0

-- position of the home index among the bound indexes
abbrev pub place_by : List Home → ℕ → ℕ
place_by homes file = unwrap_or (option_map (λ home. home.position) (slice_get homes file)) 0

-- no two files share a home index, and the addressable samples are within the day
pub record AreHomes (homes : List Home) : Type 0 where
  pub apart : (i j : ℕ) (a b : Home) → i ≢ j → slice_get homes i ≡ Some a → slice_get homes j ≡ Some b
      → a.position ≢ b.position
  pub in_day : (i : ℕ) (a : Home) → slice_get homes i ≡ Some a → 0 < a.addressable → a.base + a.addressable ≤ day

-- the sample frame is kept, for groups with this handle and these home indexes
abbrev pub kept_of : List (List Piece) → List Home → ℕ → ℕ → ℕ → Bool
kept_of groups homes handle file frame = is_kept (pieces_of groups) (addressable_by homes) handle file frame

-- the piece plays addressable sample frames
abbrev pub LiesAtHome : List Home → Piece → Type 0
LiesAtHome homes p = p.frame + p.length ≤ addressable_by homes p.file

-- some run contains this sample frame of this file
abbrev pub IsInRun : List Run → (file frame : ℕ) → Type 0
IsInRun runs file frame = (run : Run) × Contains runs run × HasFrame file frame run
