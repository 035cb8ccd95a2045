use Rattle.std.proofs.Common.{◌≡◌, ◌*◌, IsTrue, List, sym, ap, ◌∙◌, subst}
use Rattle.std.specs.List.{flat_map}
use Rattle.sound_terms.specs.declared.block.Instruction.{Instruction}
use Rattle.sound_terms.specs.declared.block.Instruction.TheVariants.{Start, Emit}
use Rattle.sound_terms.specs.Depth.{bits_of}
use Rattle.sound_terms.specs.Mix.{Reading}
use Rattle.sound_terms.specs.Blocks.{BlockState, executed_all}
use Rattle.sound_terms.specs.Sounds.{reading_by}
use Rattle.sound_terms.specs.Waves.{sample_bytes}
use Rattle.clipping.specs.Clips.{IsClippingOf, block_sums}
use Rattle.pcm.specs.Samples.{samples_in}
use Rattle.blockmachine.specs.Alone.{filling}
use Rattle.blockmachine.proofs.Filled.{alone_executed, fades_itself_out, fades_unclipped}
use Rattle.blockmachine.proofs.OneStretch.{IsFilled, filled_alone, formed_alone}
use Rattle.blockmachine.proofs.Ran.{between_ends}
use Rattle.blockmachine.proofs.faded.fade_alone.Given.{Over}
use Rattle.blockmachine.proofs.faded.fade_alone.Goals as goal

pub fade-requires : goal.fade-requires
fade-requires g c =
    let block = c.requires.copy.formed in
    let formed = formed_alone c.args.sounds.now c.args.frames c.args.format.channels c.args.format.depth
    c.args.program.now.lines _ c.in-Some.stretch c.in-Some.shape c.in-Some.ensures block
    (between_ends c.as_slice-instructions.result.now block.lines (Start c.args.frames) (Emit c.args.format.depth)
    (c.as_slice-instructions.ensures ∙ block.whole)) in
    record {
      whole = c.unpack.auto.samples ∙ c.requires.room;
      fit = c.unpack.ensures.fit;
      ramp = formed.ramp;
      some_frames = formed.some_frames;
      some_channels = formed.some_channels;
    }

-- the program is exactly this stretch, and the bytes read are its samples
filled : (g : Over) (c : goal.After-none g) → IsTrue (g.S.Shelf.honest c.args.shelf.now)
    → IsFilled (reading_by (g.S.Shelf.stored c.args.shelf.now) c.args.sounds.now) c.in-Some.stretch c.in-Some.shape
    c.args.frames c.args.format.channels c.args.format.depth c.args.program.now.lines c.read_stored.new.bytes
filled g c honest =
    let block = c.requires.copy.formed in
    filled_alone (reading_by (g.S.Shelf.stored c.args.shelf.now) c.args.sounds.now) c.args.sounds.now c.args.frames
    c.args.format.channels c.args.format.depth c.args.program.now.lines _ c.in-Some.stretch c.in-Some.shape
    c.read_stored.new.bytes c.in-Some.ensures block
    (between_ends c.as_slice-instructions.result.now block.lines (Start c.args.frames) (Emit c.args.format.depth)
    (c.as_slice-instructions.ensures ∙ block.whole))
    (λ facts there. c.in_ok-read_stored.ensures.plays honest facts there)

-- the samples are the unpacked bytes
unpacked : (g : Over) (c : goal.After-none g)
    → c.unpack.new.samples ≡ samples_in (bits_of c.args.format.depth) (c.args.frames * c.args.format.channels)
    c.read_stored.new.bytes
unpacked g c =
    c.unpack.ensures.numbers
    ∙ ap (λ n. samples_in (bits_of c.args.format.depth) n c.read_stored.new.bytes) c.requires.room

pub returns-clause-ran : goal.returns-clause-ran
returns-clause-ran g c = λ honest start.
    let depth = c.args.format.depth in
    let n = c.args.format.channels in
    let frames = c.args.frames in
    let stretch = c.in-Some.stretch in
    let shape = c.in-Some.shape in
    let reading : Reading = reading_by (g.S.Shelf.stored c.args.shelf.now) c.args.sounds.now in
    let all = filled g c honest in
    let stored = c.unpack.new.samples in
    c.pack.ensures.bytes ∙ ap (flat_map (sample_bytes (bits_of depth)))
    (fades_itself_out reading stretch.file stretch.frame frames n depth shape stored (rw (unpacked g c) all.plays)
    c.unpack.ensures.fit (c.unpack.auto.samples ∙ c.requires.room) all.ramp c.fade.new.samples c.fade.auto.samples
    c.fade.ensures
    ∙ ap (λ (s : BlockState). s.out)
    (sym (alone_executed reading n frames (filling stretch.file stretch.frame frames n) shape depth start))
    ∙ ap (λ (p : List Instruction). (executed_all reading n p start).out) all.program_is)

pub returns-clause-clips : goal.returns-clause-clips
returns-clause-clips g c = λ honest start.
    let depth = c.args.format.depth in
    let bits = bits_of depth in
    let n = c.args.format.channels in
    let frames = c.args.frames in
    let stretch = c.in-Some.stretch in
    let shape = c.in-Some.shape in
    let reading : Reading = reading_by (g.S.Shelf.stored c.args.shelf.now) c.args.sounds.now in
    let all = filled g c honest in
    let none =
    fades_unclipped reading stretch.file stretch.frame frames n depth shape c.unpack.new.samples
    (rw (unpacked g c) all.plays) c.unpack.ensures.fit (c.unpack.auto.samples ∙ c.requires.room) all.ramp in
    subst (λ (p : List Instruction).
    IsClippingOf bits n (block_sums (executed_all reading n p start).sums n 0 frames) c.none.result) all.program_is
    (subst (λ (s : BlockState). IsClippingOf bits n (block_sums s.sums n 0 frames) c.none.result)
    (sym (alone_executed reading n frames (filling stretch.file stretch.frame frames n) shape depth start))
    (c.none.ensures bits n _ none))
