use Rattle.std.proofs.Common.{◌≡◌, ◌*◌, ◌/◌, IsTrue, List, length, rules, sym, ap, ◌∙◌, subst, refl, arith}
use Rattle.std.specs.List.{flat_map}
use Rattle.sound_terms.specs.declared.block.Instruction.{Instruction}
use Rattle.sound_terms.specs.declared.block.Instruction.TheVariants.{Start, Emit}
use Rattle.sound_terms.specs.declared.piece.Shape.{Shape}
use Rattle.sound_terms.specs.declared.piece.Shape.TheVariants.{Flat}
use Rattle.sound_terms.specs.Depth.{bits_of}
use Rattle.sound_terms.specs.Mix.{Reading}
use Rattle.sound_terms.specs.Blocks.{BlockState, executed_all}
use Rattle.sound_terms.specs.Sounds.{reading_by}
use Rattle.sound_terms.specs.Waves.{sample_bytes}
use Rattle.clipping.specs.Clips.{IsClippingOf, block_sums}
use Rattle.pcm.specs.Laws.{AreBytes, all_fit, bytes_again, length-samples_in}
use Rattle.pcm.specs.Samples.{samples_in}
use Rattle.blockmachine.specs.Alone.{filling}
use Rattle.blockmachine.specs.Fading.{HasFaded}
use Rattle.blockmachine.proofs.OneStretch.{IsFilled, filled_alone}
use Rattle.blockmachine.proofs.Filled.{alone_executed, fades_itself_out, fades_unclipped, itself}
use Rattle.blockmachine.proofs.Ran.{between_ends}
use Rattle.blockmachine.proofs.alone.copy_alone.Given.{Over}
use Rattle.blockmachine.proofs.alone.copy_alone.Goals as goal

-- the program is exactly this stretch, and the bytes read are its samples
filled : (g : Over) (c : goal.After-none g) → IsTrue (g.S.Shelf.honest c.args.shelf.now)
    → IsFilled (reading_by (g.S.Shelf.stored c.args.shelf.now) c.args.sounds.now) c.in-Some.stretch c.in-Some.shape
    c.args.frames c.args.format.channels c.args.format.depth c.args.program.now.lines c.read_stored.new.bytes
filled g c honest =
    let block = c.requires.formed in
    filled_alone (reading_by (g.S.Shelf.stored c.args.shelf.now) c.args.sounds.now) c.args.sounds.now c.args.frames
    c.args.format.channels c.args.format.depth c.args.program.now.lines _ c.in-Some.stretch c.in-Some.shape
    c.read_stored.new.bytes c.in-Some.ensures block
    (between_ends c.as_slice-instructions.result.now block.lines (Start c.args.frames) (Emit c.args.format.depth)
    (c.as_slice-instructions.ensures ∙ block.whole))
    (λ facts there. c.in_ok-read_stored.ensures.plays honest facts there)

pub returns-clause-ran : goal.returns-clause-ran
returns-clause-ran g c = λ honest start.
    let depth = c.args.format.depth in
    let bytes = c.read_stored.new.bytes in
    let n = c.args.format.channels in
    let frames = c.args.frames in
    let stretch = c.in-Some.stretch in
    let reading : Reading = reading_by (g.S.Shelf.stored c.args.shelf.now) c.args.sounds.now in
    let small : AreBytes bytes = λ k. search rules in
    let room : length bytes ≡ frames * n * (bits_of depth / 8) = c.read_stored.auto.bytes ∙ c.requires.exact in
    let all = filled g c honest in
    let stored = samples_in (bits_of depth) (frames * n) bytes in
    let fit = all_fit depth (frames * n) bytes small in
    let flat : c.in-Some.shape ≡ Flat = grind arith in
    sym (bytes_again depth (frames * n) bytes small room) ∙ ap (flat_map (sample_bytes (bits_of depth)))
    (fades_itself_out reading stretch.file stretch.frame frames n depth c.in-Some.shape stored all.plays fit
    (length-samples_in (bits_of depth) (frames * n) bytes) all.ramp stored refl
    (subst (λ (s : Shape). HasFaded s n (bits_of depth) stored stored) (sym flat) (itself n depth stored fit))
    ∙ ap (λ (s : BlockState). s.out)
    (sym (alone_executed reading n frames (filling stretch.file stretch.frame frames n) c.in-Some.shape depth start))
    ∙ ap (λ (p : List Instruction). (executed_all reading n p start).out) all.program_is)

pub returns-clause-clips : goal.returns-clause-clips
returns-clause-clips g c = λ honest start.
    let depth = c.args.format.depth in
    let bits = bits_of depth in
    let bytes = c.read_stored.new.bytes in
    let n = c.args.format.channels in
    let frames = c.args.frames in
    let stretch = c.in-Some.stretch in
    let shape = c.in-Some.shape in
    let reading : Reading = reading_by (g.S.Shelf.stored c.args.shelf.now) c.args.sounds.now in
    let small : AreBytes bytes = λ k. search rules in
    let all = filled g c honest in
    let none =
    fades_unclipped reading stretch.file stretch.frame frames n depth shape (samples_in bits (frames * n) bytes) all.plays
    (all_fit depth (frames * n) bytes small) (length-samples_in bits (frames * n) bytes) all.ramp in
    subst (λ (p : List Instruction).
    IsClippingOf bits n (block_sums (executed_all reading n p start).sums n 0 frames) c.none.result) all.program_is
    (subst (λ (s : BlockState). IsClippingOf bits n (block_sums s.sums n 0 frames) c.none.result)
    (sym (alone_executed reading n frames (filling stretch.file stretch.frame frames n) shape depth start))
    (c.none.ensures bits n _ none))
