-- Laws of block programs: executing them in parts, and the effect of instructions that add.
use Rattle.std.specs.Prelude.{◌≡◌, ℕ, List, [], ◌∷◌, ◌++◌, Some, refl}
use Rattle.std.specs.List.{All}
use Rattle.std.proofs.lemmas.List.Elements.{All-head, All-tail}
use Rattle.sound_terms.specs.declared.block.Instruction.{Instruction}
use Rattle.sound_terms.specs.declared.block.Instruction.TheVariants.{Start, Flat, Rise, Fall, Emit}
use Rattle.sound_terms.specs.declared.block.Stretch.{Stretch}
use Rattle.sound_terms.specs.declared.piece.Shape.{Shape}
use Rattle.sound_terms.specs.declared.piece.Shape.TheVariants as shape
use Rattle.sound_terms.specs.Blocks.{BlockState, IsFormed, adding, addition_of, executed, executed_all, sums_with}
use Rattle.sound_terms.specs.Mix.{Reading}

pub executed_all-append :
    (reading : Reading) (channels : ℕ) (a b : List Instruction) (s : BlockState)
    → executed_all reading channels (a ++ b) s ≡ executed_all reading channels b (executed_all reading channels a s)
executed_all-append reading channels [] b s = refl
executed_all-append reading channels (i ∷ a) b s = executed_all-append reading channels a b _

-- the instruction that adds a stretch with a shape adds that stretch with that shape
pub addition_of-adding : (s : Stretch) (shape : Shape) → addition_of (adding s shape) ≡ Some (s, shape)
addition_of-adding s shape.Flat = refl
addition_of-adding s (shape.Rise offset den) = refl
addition_of-adding s (shape.Fall offset den) = refl

pub executed-adding : (reading : Reading) (channels : ℕ) (s : Stretch) (shape : Shape) (old : BlockState)
    → executed reading channels (adding s shape) old ≡ record old { sums = sums_with reading s shape old.sums }
executed-adding reading channels s shape.Flat old = refl
executed-adding reading channels s (shape.Rise offset den) old = refl
executed-adding reading channels s (shape.Fall offset den) old = refl

-- adding instructions do not change the number of sample frames of the block
pub frames_kept : (reading : Reading) (frames channels : ℕ) (program : List Instruction) (s : BlockState)
    → All (IsFormed frames channels) program → (executed_all reading channels program s).frames ≡ s.frames
frames_kept reading frames channels [] s all = refl
frames_kept reading frames channels (Start n ∷ program) s all =
    absurd (All-head (IsFormed frames channels) (Start n) program all)
frames_kept reading frames channels (Flat stretch ∷ program) s all =
    frames_kept reading frames channels program _ (All-tail (IsFormed frames channels) (Flat stretch) program all)
frames_kept reading frames channels (Rise stretch offset den ∷ program) s all =
    frames_kept reading frames channels program _
    (All-tail (IsFormed frames channels) (Rise stretch offset den) program all)
frames_kept reading frames channels (Fall stretch offset den ∷ program) s all =
    frames_kept reading frames channels program _
    (All-tail (IsFormed frames channels) (Fall stretch offset den) program all)
frames_kept reading frames channels (Emit depth ∷ program) s all =
    absurd (All-head (IsFormed frames channels) (Emit depth) program all)
