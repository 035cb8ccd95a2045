-- The effects of calls on both sides, and the sums of a block by their mixes.
use Rattle.std.proofs.Common.{◌≡◌, ℕ, ◌+◌, IsTrue, subst, sym}
use Rattle.std.specs.Prelude.{ℤ, Result}
use Rattle.std.specs.List.{All}
use Rattle.sound_terms.specs.Blocks.{block_frames, block_start}
use Rattle.sound_terms.specs.Mix.{Reading}
use Rattle.sound_terms.specs.Render.{Range}
use Rattle.sound_terms.specs.Sounds.{reading_by}
use Rattle.work_terms.specs.Disk.{Files}
use Rattle.devices.specs.declared.source.Shelf as source
use Rattle.blockmachine.specs.Exact.{AreSumsOf}
use Rattle.comparison.specs.declared.block.BlockSums.{BlockSums}
use Rattle.comparison.specs.declared.sides.Sides.{Sides}
use Rattle.comparison.specs.declared.fault.CompareFault.{CompareFault}
use Rattle.comparison.specs.Both.{AreKept, AreMatched, AreSummed, AreSumsOfBlock, IsBlock, OfBoth}
use Rattle.comparison.specs.Matched.{AreSameFrames}
use Rattle.comparison.specs.Side.{SideWork, first_sums, heard}

-- a property of both sides after a call holds of the sides before it
pub of_both : {S T : Type 0} (shelf : source.Ghosts S) (stock : source.Ghosts T) (first first' : S) (second second' : T)
    (old new : Sides) (P : (ℕ → ℕ → ℤ) → (ℕ → ℕ → ℤ) → Type 0) → new.first.work ≡ old.first.work
    → new.second.work ≡ old.second.work → shelf.stored first' ≡ shelf.stored first
    → shelf.honest first' ≡ shelf.honest first → stock.stored second' ≡ stock.stored second
    → stock.honest second' ≡ stock.honest second → OfBoth shelf stock first' second' new P
    → OfBoth shelf stock first second old P
of_both shelf stock first first' second second' old new P one two files honest others sure holds = λ is_honest is_sure.
    let said = holds (subst IsTrue (sym honest) is_honest) (subst IsTrue (sym sure) is_sure) in
    let mine = subst (λ (w : SideWork). P (heard w (shelf.stored first')) (heard new.second.work (stock.stored second')))
    one said in
    let both = subst (λ (w : SideWork). P (heard old.first.work (shelf.stored first')) (heard w (stock.stored second')))
    two mine in
    let read = subst (λ (f : Files). P (heard old.first.work f) (heard old.second.work (stock.stored second'))) files both in
    subst (λ (f : Files). P (heard old.first.work (shelf.stored first)) (heard old.second.work f)) others read

-- the sums of a block by the mixes summed last
block_summed : (sides : Sides) (k : ℕ) (block : BlockSums) (mix other : ℕ → ℕ → ℤ) → IsBlock sides k block
    → AreSummed sides k mix other → AreSumsOfBlock block mix other
block_summed sides k block mix other is summed = record {
  sums = rw (is.frames, is.channels, is.sums, is.start) summed.sums;
  others = rw (is.frames, is.channels, is.others, is.start)
      (subst (λ (r : Range). AreSumsOf (block_frames r k) r.channels
      (first_sums sides.second.work.planned.range k sides.second.sums)
      (λ i channel. other channel (block_start r k + i))) sides.same summed.others);
}

-- the sums of a block that is summed after a call that kept both sides
pub block_after : {S T X : Type 0} (shelf : source.Ghosts S) (stock : source.Ghosts T) (first first' : S)
    (second second' : T) (sides mid new : Sides) (k : ℕ) (block : BlockSums) (result : Result X CompareFault)
    → AreKept shelf stock first first' second second' sides mid result
    → OfBoth shelf stock first' second' mid (AreSummed new k) → IsBlock new k block
    → OfBoth shelf stock first second sides (AreSumsOfBlock block)
block_after shelf stock first first' second second' sides mid new k block result kept summed is = λ honest sure.
    block_summed new k block (heard sides.first.work (shelf.stored first)) (heard sides.second.work (stock.stored second)) is
    (of_both shelf stock first first' second second' sides mid (AreSummed new k) kept.first_work kept.second_work
    kept.files.first_read.same kept.files.first_read.honest_same kept.files.second_read.same
    kept.files.second_read.honest_same summed honest sure)

-- sides with an empty cache
pub none_matched : {S T : Type 0} (shelf : source.Ghosts S) (stock : source.Ghosts T) (first : S) (second : T)
    (sides : Sides) → ((reading other : Reading) → All (AreSameFrames reading other) sides.stored.matches)
    → AreMatched shelf stock first second sides
none_matched shelf stock first second sides none = λ honest sure.
    none (reading_by (shelf.stored first) sides.first.work.sounds)
    (reading_by (stock.stored second) sides.second.work.sounds)
