-- Worked examples of block programs: the instructions of pieces and their output.
use Rattle.std.specs.Prelude.{◌≡◌, refl, ℕ, pos, negsuc, neg_ℤ, List, [], ◌∷◌}
use Rattle.sound_terms.specs.declared.Depth.TheVariants.{Sixteen}
use Rattle.sound_terms.specs.declared.block.Stretch.{Stretch}
use Rattle.sound_terms.specs.declared.block.Instruction.TheVariants.{Start, Flat, Rise, Emit}
use Rattle.sound_terms.specs.declared.piece.Piece.{Piece}
use Rattle.sound_terms.specs.declared.piece.Shape.{Shape}
use Rattle.sound_terms.specs.declared.piece.Shape.TheVariants as shape
use Rattle.sound_terms.specs.Mix.{Reading, full_scale}
use Rattle.sound_terms.specs.Render.{Range}
use Rattle.sound_terms.specs.Blocks.{BlockState, block_count, block_frames, executed_all, program_of}

-- a piece of channel 1 of file 0 on channel 1
abbrev piece : (start length frame : ℕ) → Shape → Piece
piece start length frame shape =
    record { start = start; length = length; frame = frame; file = 0; first = 1; dest = 1; width = 1; shape = shape }

abbrev stretch : (at length frame : ℕ) → Stretch
stretch at length frame = record { at = at; length = length; frame = frame; file = 0; first = 1; dest = 1; width = 1 }

-- a range of one channel at 16 bits
abbrev range : (from to : ℕ) → Range
range from to = record { from = from; to = to; channels = 1; depth = Sixteen }

abbrev silence : BlockState
silence = record { frames = 0; sums = λ i channel. pos 0; out = [] }

-- every sample is -1 at 16 bits
abbrev minus_one : Reading
minus_one file channel frame = full_scale 16 (neg_ℤ (pos 1))

abbrev rise : List Piece
rise = piece 0 3 0 (shape.Rise 0 3) ∷ []

pub a_rise_is_added : program_of rise (range 0 3) 0
    ≡ Start 3 ∷ Rise (stretch 0 3 0) 0 3 ∷ Emit Sixteen ∷ []
a_rise_is_added = refl

pub a_rise_is_rounded_once : (executed_all minus_one 1 (program_of rise (range 0 3) 0) silence).out
    ≡ pos 0 ∷ pos 0 ∷ negsuc 0 ∷ []
a_rise_is_rounded_once = refl

-- a piece that crosses the end of the first block
abbrev over_the_end : List Piece
over_the_end = piece 4094 4 7 (shape.Rise 0 4) ∷ []

pub two_blocks : block_count (range 0 4100) ≡ 2
two_blocks = refl

pub the_last_is_shorter : block_frames (range 0 4100) 1 ≡ 4
the_last_is_shorter = refl

pub cut_by_the_block : program_of over_the_end (range 0 4100) 0
    ≡ Start 4096 ∷ Rise (stretch 4094 2 7) 0 4 ∷ Emit Sixteen ∷ []
cut_by_the_block = refl

pub goes_on_in_the_next : program_of over_the_end (range 0 4100) 1
    ≡ Start 4 ∷ Rise (stretch 0 2 9) 2 4 ∷ Emit Sixteen ∷ []
goes_on_in_the_next = refl

-- two overlapping pieces, and a fade-out on a channel that is not rendered
abbrev layers : List Piece
layers = piece 0 2 0 shape.Flat ∷ piece 1 2 5 shape.Flat ∷ record (piece 0 3 0 (shape.Fall 0 3)) { dest = 2 } ∷ []

pub layers_in_turn : program_of layers (range 0 3) 0
    ≡ Start 3 ∷ Flat (stretch 0 2 0) ∷ Flat (stretch 1 2 5) ∷ Emit Sixteen ∷ []
layers_in_turn = refl

pub layers_are_summed : (executed_all minus_one 1 (program_of layers (range 0 3) 0) silence).out
    ≡ negsuc 0 ∷ negsuc 1 ∷ negsuc 0 ∷ []
layers_are_summed = refl
