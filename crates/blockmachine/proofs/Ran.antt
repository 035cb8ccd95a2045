-- The effect of a program, instruction by instruction.
use Rattle.std.proofs.Common.{◌≡◌, ℕ, ◌+◌, ◌-◌, ◌<◌, ◌≤◌, List, All, [], ◌∷◌, ◌++◌, Some, length, take, drop, get_or, arith, length-append, sym, ap, ◌∙◌, subst}
use Rattle.std.proofs.lemmas.List.{take_at, take_more}
use Rattle.std.proofs.lemmas.List.Elements.{All-drop, All-take, All-weaker}
use Rattle.std.proofs.lemmas.Option.{same_Some}
use Rattle.sound_terms.specs.declared.Depth.{Depth}
use Rattle.sound_terms.specs.declared.block.Instruction.{Instruction}
use Rattle.sound_terms.specs.declared.block.Instruction.TheVariants.{Start, Flat, Rise, Fall, Emit}
use Rattle.sound_terms.specs.declared.block.Stretch.{Stretch}
use Rattle.sound_terms.specs.declared.piece.Shape.{Shape}
use Rattle.sound_terms.specs.declared.piece.Shape.TheVariants as shapes
use Rattle.sound_terms.specs.Mix.{Reading}
use Rattle.sound_terms.specs.Blocks.{BlockState, FitsBlock, IsBlockProgram, IsFormed, LiesInFiles, addition_of, executed, executed_all, sums_with}
use Rattle.sound_terms.specs.BlockLaws.{executed_all-append}
use Rattle.sound_terms.specs.Sounds.{SoundFacts}
use Rattle.blockmachine.specs.Lines.{CanAdd}
use Rattle.blockmachine.specs.Sums.{Extent}

-- the instructions between the first and the last one
pub between_ends : (program lines : List Instruction) (first last : Instruction)
    → program ≡ first ∷ (lines ++ last ∷ [])
    → take (length program - 1 - 1) (drop 1 program) ≡ lines
between_ends program lines first last whole =
    let long = length-append lines (last ∷ []) in
    let count : length lines ≡ length (first ∷ (lines ++ last ∷ [])) - 1 - 1 = omega arith in
    rw whole (take_at lines (last ∷ []) _ count)

-- a stretch that fits a shorter block fits a longer one
fits_longer : (n m channels : ℕ) → n ≤ m → (s : Stretch) → FitsBlock n channels s → FitsBlock m channels s
fits_longer n m channels le s fits = record {
  some = fits.some;
  inside = omega (arith, fits.inside);
  wide = fits.wide;
  source_from_one = fits.source_from_one;
  source_to_64 = fits.source_to_64;
  dest_from_one = fits.dest_from_one;
  dest_inside = fits.dest_inside;
  source_in_day = fits.source_in_day;
}

pub formed_longer : (n m channels : ℕ) → n ≤ m → (line : Instruction) → IsFormed n channels line
    → IsFormed m channels line
formed_longer n m channels le (Start frames) formed = formed
formed_longer n m channels le (Flat s) formed = (fits_longer n m channels le s formed.0, formed.1)
formed_longer n m channels le (Rise s offset den) formed = (fits_longer n m channels le s formed.0, formed.1)
formed_longer n m channels le (Fall s offset den) formed = (fits_longer n m channels le s formed.0, formed.1)
formed_longer n m channels le (Emit depth) formed = formed

-- instructions that can be added are well-formed; well-formed ones with sources in open files can be added
pub added_formed : (sounds : List SoundFacts) (extent : Extent) (line : Instruction) → CanAdd sounds extent line
    → IsFormed extent.frames extent.channels line
added_formed sounds extent (Start frames) can = can
added_formed sounds extent (Flat s) can = (can.inside, can.ramp)
added_formed sounds extent (Rise s offset den) can = (can.inside, can.ramp)
added_formed sounds extent (Fall s offset den) can = (can.inside, can.ramp)
added_formed sounds extent (Emit depth) can = can

pub can_add : (sounds : List SoundFacts) (extent : Extent) (line : Instruction)
    → IsFormed extent.frames extent.channels line → LiesInFiles sounds line → CanAdd sounds extent line
can_add sounds extent (Start frames) formed lies = formed
can_add sounds extent (Flat s) formed lies = record { inside = formed.0; lies = lies; ramp = formed.1 }
can_add sounds extent (Rise s offset den) formed lies = record { inside = formed.0; lies = lies; ramp = formed.1 }
can_add sounds extent (Fall s offset den) formed lies = record { inside = formed.0; lies = lies; ramp = formed.1 }
can_add sounds extent (Emit depth) formed lies = formed

-- the instructions of a program for a shorter block over open files can be added
pub added_between : (sounds : List SoundFacts) (extent : Extent) (frames : ℕ) (depth : Depth)
    → (program lines : List Instruction) → frames ≤ extent.frames → IsBlockProgram frames extent.channels depth lines
    → program ≡ lines → All (LiesInFiles sounds) lines
    → All (CanAdd sounds extent) (take (length program - 1 - 1) (drop 1 program))
added_between sounds extent frames depth program lines le block same inside =
    let most = extent.frames in
    let n = extent.channels in
    let between = between_ends program block.lines (Start frames) (Emit depth) (same ∙ block.whole) in
    let longer =
    All-weaker (IsFormed frames n) (IsFormed most n) (λ line formed. formed_longer frames most n le line formed)
    block.lines block.formed in
    let formed = subst (λ (l : List Instruction). All (IsFormed most n) l) (sym between) longer in
    let all = All-drop (LiesInFiles sounds) 1 program (subst (All (LiesInFiles sounds)) (sym same) inside) in
    let lies = All-take (LiesInFiles sounds) (length program - 1 - 1) (drop 1 program) all in
    λ k d below. can_add sounds extent _ (formed k d below) (lies k d below)

-- an instruction adds its samples
adds : (reading : Reading) (channels : ℕ) (line : Instruction) (s : Stretch) (shape : Shape) (state : BlockState)
    → addition_of line ≡ Some (s, shape)
    → sums_with reading s shape state.sums ≡ (executed reading channels line state).sums
adds reading channels (Start frames) s shape state is = absurd (cc)
adds reading channels (Flat t) s shape state is =
    ap (λ (p : Stretch × Shape). sums_with reading p.0 p.1 state.sums) (sym (same_Some (t, shapes.Flat) (s, shape) is))
adds reading channels (Rise t offset den) s shape state is =
    ap (λ (p : Stretch × Shape). sums_with reading p.0 p.1 state.sums)
    (sym (same_Some (t, shapes.Rise offset den) (s, shape) is))
adds reading channels (Fall t offset den) s shape state is =
    ap (λ (p : Stretch × Shape). sums_with reading p.0 p.1 state.sums)
    (sym (same_Some (t, shapes.Fall offset den) (s, shape) is))
adds reading channels (Emit depth) s shape state is = absurd (cc)

-- the instructions up to and including it
pub adds_more : (reading : Reading) (channels n : ℕ) (lines : List Instruction) (s : Stretch) (shape : Shape)
    (state : BlockState) → n < length lines → addition_of (get_or lines n (Start 0)) ≡ Some (s, shape)
    → sums_with reading s shape (executed_all reading channels (take n lines) state).sums
    ≡ (executed_all reading channels (take (n + 1) lines) state).sums
adds_more reading channels n lines s shape state below is =
    let line = get_or lines n (Start 0) in
    adds reading channels line s shape (executed_all reading channels (take n lines) state) is
    ∙ ap (λ (made : BlockState). made.sums) (sym (executed_all-append reading channels (take n lines) (line ∷ []) state)
    ∙ ap (λ (l : List Instruction). executed_all reading channels l state) (sym (take_more lines n (Start 0) below)))
