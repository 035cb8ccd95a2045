-- Both sides of a comparison over two shelves: their sound, and the effects of calls on them.
use Rattle.std.specs.Prelude.{◌≡◌, ℕ, ◌+◌, ℤ, List, IsTrue, Result, IfErr, OnOk, length}
use Rattle.sound_terms.specs.Blocks.{block_frames, block_start}
use Rattle.devices.specs.declared.source.Shelf as source
use Rattle.devices.specs.Frame.{IsQuiet}
use Rattle.blockmachine.specs.Exact.{AreSumsOf}
use Rattle.comparison.specs.declared.block.BlockSums.{BlockSums}
use Rattle.comparison.specs.declared.fault.CompareFault.{CompareFault}
use Rattle.comparison.specs.declared.sides.Sides.{Sides}
use Rattle.comparison.specs.Fault.{IsSource, OfEither}
use Rattle.comparison.specs.Matched.{AreMatches, ReadFiles}
use Rattle.comparison.specs.Side.{AreBlockSums, first_sums, heard}

-- a property of the sound of both sides holds if both shelves are honest
abbrev pub OfBoth : {S T : Type 0} → source.Ghosts S → source.Ghosts T → S → T → Sides
    → ((ℕ → ℕ → ℤ) → (ℕ → ℕ → ℤ) → Type 0) → Type 0
OfBoth shelf stock first second sides P =
    IsTrue (shelf.honest first) → IsTrue (stock.honest second)
    → P (heard sides.first.work (shelf.stored first)) (heard sides.second.work (stock.stored second))

-- each cached match is of equal ranges of the files
abbrev pub AreMatched : {S T : Type 0} → source.Ghosts S → source.Ghosts T → S → T → Sides → Type 0
AreMatched shelf stock first second sides =
    AreMatches shelf stock first second sides.first.work.sounds sides.second.work.sounds sides.stored.matches

-- a call kept the plans and the files, the cache stays correct, and files of both sides were only read
pub record AreKept {S T X : Type 0} (shelf : source.Ghosts S) (stock : source.Ghosts T) (first first' : S)
    (second second' : T) (old new : Sides) (result : Result X CompareFault) : Type 0 where
  pub first_work : new.first.work ≡ old.first.work
  pub second_work : new.second.work ≡ old.second.work
  pub matched : OnOk result (AreMatched shelf stock first' second' new)
  pub source : IfErr result (OfEither IsSource)
  pub files : ReadFiles shelf stock first first' second second' old.first.work.sounds old.second.work.sounds result

-- the calls so far kept the plans and the files, the cache is correct, and nothing has failed
pub record AreGoneOver {S T : Type 0} (shelf : source.Ghosts S) (stock : source.Ghosts T) (first first' : S)
    (second second' : T) (old new : Sides) : Type 0 where
  pub first_work : new.first.work ≡ old.first.work
  pub second_work : new.second.work ≡ old.second.work
  pub first_quiet : IsQuiet shelf first first'
  pub second_quiet : IsQuiet stock second second'
  pub matched : AreMatched shelf stock first' second' new

-- one count per channel
abbrev pub HasCounts : Sides → List ℕ → Type 0
HasCounts sides counts = length counts ≡ sides.first.work.planned.range.channels

-- the current sums are those that two mixes have in block k
pub record AreSummed (sides : Sides) (k : ℕ) (mix other : ℕ → ℕ → ℤ) : Type 0 where
  pub sums : AreBlockSums sides.first.work.planned.range mix k
      (first_sums sides.first.work.planned.range k sides.first.sums)
  pub others : AreBlockSums sides.second.work.planned.range other k
      (first_sums sides.second.work.planned.range k sides.second.sums)

-- `block` is block k of both sides
pub record IsBlock (sides : Sides) (k : ℕ) (block : BlockSums) : Type 0 where
  pub sums : block.sums.now ≡ first_sums sides.first.work.planned.range k sides.first.sums
  pub others : block.others.now ≡ first_sums sides.second.work.planned.range k sides.second.sums
  pub frames : block.frames ≡ block_frames sides.first.work.planned.range k
  pub channels : block.channels ≡ sides.first.work.planned.range.channels
  pub start : block.start ≡ block_start sides.first.work.planned.range k

-- the sums of a block are the sums of two mixes
pub record AreSumsOfBlock (block : BlockSums) (mix other : ℕ → ℕ → ℤ) : Type 0 where
  pub sums : AreSumsOf block.frames block.channels block.sums.now (λ i channel. mix channel (block.start + i))
  pub others : AreSumsOf block.frames block.channels block.others.now (λ i channel. other channel (block.start + i))
