use Rattle.std.proofs.Common.{◌*◌, ◌/◌, ◌≤◌, ℕ, All, List, length, take, arith, sym, ap, subst}
use Rattle.std.proofs.lemmas.List.Elements.{All-take}
use Rattle.std.proofs.Math.Nat.{mul-le-mul_left}
use Rattle.sound_terms.specs.declared.block.Instruction.{Instruction}
use Rattle.sound_terms.specs.declared.block.Instruction.TheVariants.{Start}
use Rattle.sound_terms.specs.declared.piece.Shape.TheVariants.{Flat}
use Rattle.sound_terms.specs.Depth.{bits_of}
use Rattle.sound_terms.specs.Laws.{bits_bounded}
use Rattle.sound_terms.specs.Blocks.{executed_all}
use Rattle.sound_terms.specs.Sounds.{reading_by}
use Rattle.blockmachine.specs.Lines.{CanAdd, silent}
use Rattle.blockmachine.specs.Sums.{AreSums}
use Rattle.blockmachine.proofs.OneStretch.{fills_as}
use Rattle.blockmachine.proofs.first_layer.begin_sums.Goals as goal

pub read_layer-requires : goal.read_layer-requires
read_layer-requires g c =
    let sounds = c.args.sounds.now in
    let extent = c.args.sums.now.extent in
    let depth = c.args.depth in
    let first = take 1 c.args.lines.now in
    let told = c.in-Some.ensures in
    let narrow : bits_of depth / 8 ≤ 4 = omega (arith, bits_bounded depth) in
    let few : extent.frames * extent.channels ≤ 16384 =
    rw (sym c.lanes-lanes.ensures.frames, sym c.lanes-lanes.ensures.channels) told.few in
    let wide = mul-le-mul_left (extent.frames * extent.channels) narrow in
    record {
      fills = fills_as sounds _ _ _ _ depth first c.in-Some.stretch Flat c.lanes-lanes.ensures.frames
          c.lanes-lanes.ensures.channels told.fills;
      lies = ((subst (All (CanAdd sounds extent)) told.fills.alone (All-take (CanAdd sounds extent) 1 c.args.lines.now c.requires)) 0
          (Start 0) (omega arith)).lies;
      room = omega (arith, wide, few, c.args.buffer.now.bytes_room, c.as_mut_slice-bytes.ensures.len, ap (λ (l : List ℕ). length l) c.as_mut_slice-bytes.ensures.value);
    }

pub returns-clause-summed : goal.returns-clause-summed
returns-clause-summed g c = λ honest channels begun.
    let sums = c.read_layer.new.sums in
    subst (λ (l : List Instruction). AreSums sums (executed_all (reading_by (g.S.Shelf.stored c.args.shelf.now) c.args.sounds.now)
    channels l (silent begun)).sums) (sym c.in-Some.ensures.fills.alone) (c.in_ok-read_layer.ensures.summed honest)
