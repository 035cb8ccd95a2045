-- Equal sample ranges of files of both sides.
use Rattle.std.specs.Prelude.{◌≡◌, ℕ, ◌+◌, ◌-◌, ◌^◌, ◌<◌, ◌≤◌, pos, neg_ℤ, ◌≤ℤ◌, List, All, IsTrue, Some, slice_get, Result, IfErr, OnOk}
use Rattle.sound_terms.specs.Mix.{Reading}
use Rattle.sound_terms.specs.Sounds.{SoundFacts, reading_by}
use Rattle.devices.specs.Frame.{OnlyReads}
use Rattle.devices.specs.declared.source.Shelf as source
use Rattle.comparison.specs.declared.fault.CompareFault.{CompareFault}
use Rattle.comparison.specs.declared.matches.Match.{Match}
use Rattle.comparison.specs.Fault.{FailsAt, IsSource, OfEither, OfFirst, OfSecond}

-- both files have equal samples in these ranges, all within full scale
abbrev pub AreSameFrames : (reading other : Reading) → Match → Type 0
AreSameFrames reading other m = (channel i : ℕ) → 1 ≤ channel → channel ≤ m.channels → i < m.end - m.frame
    → (reading m.file channel (m.frame + i) ≡ other m.other_file channel (m.other_frame + i))
    × (neg_ℤ (pos (2 ^ 47)) ≤ℤ reading m.file channel (m.frame + i))
    × (reading m.file channel (m.frame + i) ≤ℤ pos (2 ^ 47))

-- the later range begins within the earlier one or at its end, at the same distance in both files
pub record Follows (earlier later : Match) : Type 0 where
  pub same_file : later.file ≡ earlier.file
  pub same_other : later.other_file ≡ earlier.other_file
  pub same_channels : later.channels ≡ earlier.channels
  pub begun : earlier.frame ≤ later.frame
  pub joins : later.frame ≤ earlier.end
  pub other_begun : earlier.other_frame ≤ later.other_frame
  pub alike : later.frame - earlier.frame ≡ later.other_frame - earlier.other_frame

-- each match is of equal ranges, if both shelves return the stored bytes
abbrev pub AreMatches : {S T : Type 0} → source.Ghosts S → source.Ghosts T → S → T → (sounds others : List SoundFacts)
    → List Match → Type 0
AreMatches shelf stock first second sounds others matches =
    IsTrue (shelf.honest first) → IsTrue (stock.honest second)
    → All (AreSameFrames (reading_by (shelf.stored first) sounds) (reading_by (stock.stored second) others)) matches

-- a match of ranges within open files, with all their channels
pub record LieInBoth (sounds others : List SoundFacts) (found : Match) : Type 0 where
  pub facts : SoundFacts
  pub there : slice_get sounds found.file ≡ Some facts
  pub other_facts : SoundFacts
  pub other_there : slice_get others found.other_file ≡ Some other_facts
  pub channels : facts.channels ≡ found.channels
  pub other_channels : other_facts.channels ≡ found.channels
  pub begun : found.frame ≤ found.end
  pub few : found.end - found.frame < 2 ^ 32
  pub inside : found.end ≤ facts.frames
  pub other_inside : found.other_frame + (found.end - found.frame) ≤ other_facts.frames

-- the call only read files of both sides
pub record ReadFiles {S T X : Type 0} (shelf : source.Ghosts S) (stock : source.Ghosts T) (first first' : S)
    (second second' : T) (sounds others : List SoundFacts) (result : Result X CompareFault) : Type 0 where
  pub first_read : OnlyReads shelf first first' result (λ fault. OfFirst IsSource fault)
      (λ fault failed. OfFirst (λ of. FailsAt sounds of failed) fault)
  pub second_read : OnlyReads stock second second' result (λ fault. OfSecond IsSource fault)
      (λ fault failed. OfSecond (λ of. FailsAt others of failed) fault)

-- the call only read files of both sides, and the cache stays correct
pub record ReadBoth {S T X : Type 0} (shelf : source.Ghosts S) (stock : source.Ghosts T) (first first' : S)
    (second second' : T) (sounds others : List SoundFacts) (matches : List Match) (result : Result X CompareFault)
    : Type 0 where
  pub matched : OnOk result (AreMatches shelf stock first' second' sounds others matches)
  pub source : IfErr result (OfEither IsSource)
  pub files : ReadFiles shelf stock first first' second second' sounds others result
