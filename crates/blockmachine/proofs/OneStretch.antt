-- Programs that consist of one stretch.
use Rattle.std.proofs.Common.{◌≡◌, ◌≤◌, ℕ, ◌*◌, All, List, [], ◌∷◌, ◌++◌, refl, sym, ap, ◌∙◌, subst, arith}
use Rattle.std.specs.Prelude.{Some, slice_get}
use Rattle.std.proofs.lemmas.Option.{same_Some}
use Rattle.sound_terms.specs.declared.Depth.{Depth}
use Rattle.sound_terms.specs.declared.block.Stretch.{Stretch}
use Rattle.sound_terms.specs.declared.block.Instruction.{Instruction}
use Rattle.sound_terms.specs.declared.block.Instruction.TheVariants.{Start, Emit, Flat, Rise, Fall}
use Rattle.sound_terms.specs.declared.piece.Shape.{Shape}
use Rattle.sound_terms.specs.declared.piece.Shape.TheVariants as shapes
use Rattle.sound_terms.specs.Depth.{bits_of}
use Rattle.sound_terms.specs.Groups.{IsRamp}
use Rattle.sound_terms.specs.Mix.{Reading}
use Rattle.sound_terms.specs.Blocks.{FitsBlock, IsBlockProgram, IsFormed, IsFull, PlaysFull, adding, addition_of}
use Rattle.sound_terms.specs.Sounds.{SoundFacts}
use Rattle.pcm.specs.Samples.{samples_in}
use Rattle.blockmachine.specs.Alone.{FillsAlone, filling}
use Rattle.blockmachine.specs.Playing.{Plays}

abbrev added : Stretch × Shape → Instruction
added both = adding both.0 both.1

-- an instruction from the stretch that it adds
pub by_addition : (line : Instruction) (stretch : Stretch) (shape : Shape) → addition_of line ≡ Some (stretch, shape)
    → line ≡ adding stretch shape
by_addition (Start frames) stretch shape is = cc
by_addition (Emit depth) stretch shape is = cc
by_addition (Flat s) stretch shape is = ap added (same_Some (s, shapes.Flat) (stretch, shape) is)
by_addition (Rise s offset den) stretch shape is = ap added (same_Some (s, shapes.Rise offset den) (stretch, shape) is)
by_addition (Fall s offset den) stretch shape is = ap added (same_Some (s, shapes.Fall offset den) (stretch, shape) is)

-- a well-formed instruction fits its block and has a ramp
formed_by : (frames channels : ℕ) (stretch : Stretch) (shape : Shape) → IsFormed frames channels (adding stretch shape)
    → FitsBlock frames channels stretch × IsRamp shape stretch.length
formed_by frames channels stretch shapes.Flat formed = formed
formed_by frames channels stretch (shapes.Rise offset den) formed = formed
formed_by frames channels stretch (shapes.Fall offset den) formed = formed

pub plays_full : (reading : Reading) (stretch : Stretch) (shape : Shape) → IsFull reading stretch
    → PlaysFull reading (adding stretch shape)
plays_full reading stretch shapes.Flat full = full
plays_full reading stretch (shapes.Rise offset den) full = full
plays_full reading stretch (shapes.Fall offset den) full = full

-- a block that one stretch fills has samples
pub record IsFormedAlone (shape : Shape) (frames channels : ℕ) : Type 0 where
  pub some_frames : 1 ≤ frames
  pub some_channels : 1 ≤ channels
  pub ramp : IsRamp shape frames

pub formed_alone : (sounds : List SoundFacts) (frames channels : ℕ) (depth : Depth) (program lines : List Instruction)
    (stretch : Stretch) (shape : Shape) → FillsAlone sounds frames channels depth lines stretch shape
    → (block : IsBlockProgram frames channels depth program) → lines ≡ block.lines → IsFormedAlone shape frames channels
formed_alone sounds frames channels depth program lines stretch shape fills block between =
    let is : stretch ≡ filling stretch.file stretch.frame frames channels = fills.whole in
    let long : stretch.length ≡ frames = ap (λ (s : Stretch). s.length) is in
    let wide : stretch.width ≡ channels = ap (λ (s : Stretch). s.width) is in
    let only : adding stretch shape ∷ [] ≡ block.lines = sym fills.alone ∙ between in
    let formed = formed_by frames channels stretch shape
    ((subst (All (IsFormed frames channels)) (sym only) block.formed) 0 (Emit depth) (omega arith)) in
    record {
      some_frames = omega (arith, formed.0.some, long);
      some_channels = omega (arith, formed.0.wide, wide);
      ramp = subst (IsRamp shape) long formed.1;
    }

-- filling a block doesn't depend on the other instructions, only on the numbers of frames and channels
pub fills_as : (sounds : List SoundFacts) (frames channels most wide : ℕ) (depth : Depth) (lines : List Instruction)
    (stretch : Stretch) (shape : Shape) → frames ≡ most → channels ≡ wide
    → FillsAlone sounds frames channels depth lines stretch shape
    → FillsAlone sounds most wide depth (adding stretch shape ∷ []) stretch shape
fills_as sounds frames channels most wide depth lines stretch shape long broad fills = record {
  alone = refl;
  whole = rw (sym long, sym broad) fills.whole;
  facts = fills.facts;
  there = fills.there;
  channels_alike = fills.channels_alike ∙ broad;
  depth_alike = fills.depth_alike;
}

-- the samples read for the stretch are the samples that it plays
pub played_alone : (reading : Reading) (sounds : List SoundFacts) (frames channels : ℕ) (depth : Depth)
    (lines : List Instruction) (stretch : Stretch) (shape : Shape) (bytes : List ℕ)
    → FillsAlone sounds frames channels depth lines stretch shape
    → ((facts : SoundFacts) → slice_get sounds stretch.file ≡ Some facts
    → Plays reading stretch facts.channels (bits_of facts.depth)
    (samples_in (bits_of facts.depth) (stretch.length * facts.channels) bytes))
    → Plays reading (filling stretch.file stretch.frame frames channels) channels (bits_of depth)
    (samples_in (bits_of depth) (frames * channels) bytes)
played_alone reading sounds frames channels depth lines stretch shape bytes fills read =
    let is : stretch ≡ filling stretch.file stretch.frame frames channels = fills.whole in
    let long : stretch.length ≡ frames = ap (λ (s : Stretch). s.length) is in
    let played : Plays reading stretch channels (bits_of depth) (samples_in (bits_of depth) (frames * channels) bytes) =
    subst (λ m. Plays reading stretch channels (bits_of depth) (samples_in (bits_of depth) (m * channels) bytes)) long
    (rw (fills.channels_alike, ap bits_of fills.depth_alike) at (read fills.facts fills.there)) in
    subst (λ (s : Stretch). Plays reading s channels (bits_of depth)
    (samples_in (bits_of depth) (frames * channels) bytes)) is played

-- the program is exactly this stretch, and the bytes have its samples
pub record IsFilled (reading : Reading) (stretch : Stretch) (shape : Shape) (frames channels : ℕ) (depth : Depth)
    (program : List Instruction) (bytes : List ℕ) : Type 0 where
  pub plays : Plays reading (filling stretch.file stretch.frame frames channels) channels (bits_of depth)
      (samples_in (bits_of depth) (frames * channels) bytes)
  pub program_is : Start frames ∷ ((adding (filling stretch.file stretch.frame frames channels) shape ∷ [])
      ++ Emit depth ∷ []) ≡ program
  pub ramp : IsRamp shape frames

pub filled_alone : (reading : Reading) (sounds : List SoundFacts) (frames channels : ℕ) (depth : Depth)
    (program lines : List Instruction) (stretch : Stretch) (shape : Shape) (bytes : List ℕ)
    → FillsAlone sounds frames channels depth lines stretch shape
    → (block : IsBlockProgram frames channels depth program) → lines ≡ block.lines
    → ((facts : SoundFacts) → slice_get sounds stretch.file ≡ Some facts
    → Plays reading stretch facts.channels (bits_of facts.depth)
    (samples_in (bits_of facts.depth) (stretch.length * facts.channels) bytes))
    → IsFilled reading stretch shape frames channels depth program bytes
filled_alone reading sounds frames channels depth program lines stretch shape bytes fills block between read =
    let is : stretch ≡ filling stretch.file stretch.frame frames channels = fills.whole in
    let only : adding stretch shape ∷ [] ≡ block.lines = sym fills.alone ∙ between in
    record {
      plays = played_alone reading sounds frames channels depth lines stretch shape bytes fills read;
      program_is = ap (λ (l : List Instruction). Start frames ∷ (l ++ Emit depth ∷ []))
          (ap (λ (s : Stretch). adding s shape ∷ []) (sym is) ∙ only) ∙ sym block.whole;
      ramp = (formed_alone sounds frames channels depth program lines stretch shape fills block between).ramp;
    }
