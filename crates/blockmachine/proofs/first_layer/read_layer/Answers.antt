use Rattle.std.proofs.Common.{◌*◌, [], ◌∷◌, rules, sym, subst}
use Rattle.sound_terms.specs.declared.block.Stretch.{Stretch}
use Rattle.sound_terms.specs.declared.piece.Shape.TheVariants.{Flat}
use Rattle.std.specs.Prelude.{pos}
use Rattle.sound_terms.specs.Depth.{bits_of}
use Rattle.sound_terms.specs.Mix.{Reading}
use Rattle.sound_terms.specs.Blocks.{adding, sums_with}
use Rattle.sound_terms.specs.Sounds.{reading_by}
use Rattle.pcm.specs.Laws.{AreBytes, all_fit, length-samples_in}
use Rattle.pcm.specs.Samples.{samples_in}
use Rattle.blockmachine.specs.Sums.{AreSums, block_of, widened}
use Rattle.blockmachine.proofs.OneStretch.{played_alone}
use Rattle.blockmachine.proofs.Filled.{layer_sums}
use Rattle.blockmachine.proofs.first_layer.read_layer.Goals as goal

pub returns-clause-summed : goal.returns-clause-summed
returns-clause-summed g c = λ honest.
    let reading : Reading = reading_by (g.S.Shelf.stored c.args.shelf.now) c.args.sounds.now in
    let stretch = c.args.stretch.now in
    let depth = c.args.depth in
    let bits = bits_of depth in
    let extent = c.args.sums.now.extent in
    let n = extent.frames * extent.channels in
    let bytes = c.read_stored.new.bytes in
    let small : AreBytes bytes = λ k. search rules in
    let fills = c.requires.fills in
    let plays = played_alone reading c.args.sounds.now extent.frames extent.channels depth (adding stretch Flat ∷ []) stretch
    Flat bytes fills (λ facts there. c.in_ok-read_stored.ensures.plays honest facts there) in
    let sums = layer_sums reading stretch.file stretch.frame extent.frames extent.channels depth (samples_in bits n bytes)
    plays (all_fit depth n bytes small) (length-samples_in bits n bytes) in
    let whole : AreSums (block_of extent.frames extent.channels (widened bits (samples_in bits n bytes)))
    (sums_with reading stretch Flat (λ _ _. pos 0)) =
    subst (λ (s : Stretch). AreSums (block_of extent.frames extent.channels (widened bits (samples_in bits n bytes)))
    (sums_with reading s Flat (λ _ _. pos 0))) (sym fills.whole) sums in
    rw (c.fill.ensures.filled, c.fill.ensures.same_extent) whole
