use Rattle.std.proofs.Common.{◌∙◌, ◌-◌, ap, arith, rules, flat_map}
use Rattle.sound_terms.specs.Blocks.{block_start, executed_all}
use Rattle.sound_terms.specs.Depth.{bits_of}
use Rattle.sound_terms.specs.Sounds.{reading_by}
use Rattle.sound_terms.specs.Waves.{sample_bytes}
use Rattle.rendering.specs.Work.{heard}
use Rattle.rendering.specs.Written.{frames_before}
use Rattle.rendering.proofs.Clipped.{blocks_clips, new_block}
use Rattle.rendering.proofs.Frames.{block_packed, written_front}
use Rattle.rendering.proofs.blocks.Blocks.copy_at.Goals as goal

pub returns-clause-played : goal.returns-clause-played
returns-clause-played g c honest =
    let plan = c.self.inside.plan in
    let range = plan.range in
    let first = c.args.blocks.start in
    let last = c.args.blocks.end in
    let mix = heard plan c.self.inside.sounds.now (g.S.Shelf.stored c.args.shelf.now) in
    let reading = reading_by (g.S.Shelf.stored c.args.shelf.now) c.self.inside.sounds.now in
    let copied = (rw c.format-format.ensures.format at ((rw c.in-Some.is at (c.in-Ok.ensures.ran honest)) new_block))
    ∙ ap (flat_map (sample_bytes (bits_of range.depth)))
    ((rw (c.into.ensures, c.into-2.ensures) at c.fill_span-frames.ensures.handed) reading
    (rw c.in-Some.is at (c.in-Ok.ensures.full honest)) new_block)
    ∙ block_packed (bits_of range.depth) (block_start range first) mix range.channels
    (frames_before range last - frames_before range first) in
    rw (← c.self.view_is)
    (written_front c.args.at c.length_of.result c.args.bytes.now c.copy_alone.new.bytes _ (search rules)
    (search rules) copied)

pub returns-clause-clips : goal.returns-clause-clips
returns-clause-clips g c honest =
    let plan = c.self.inside.plan in
    let range = plan.range in
    let reading = reading_by (g.S.Shelf.stored c.args.shelf.now) c.self.inside.sounds.now in
    let span = c.fill_span-frames.ensures in
    let lines = c.fill_span-frames.new.program.lines in
    let frames = rw (c.into.ensures, c.into-2.ensures) at span.frames in
    rw (← c.self.view_is) (blocks_clips range (heard plan c.self.inside.sounds.now (g.S.Shelf.stored c.args.shelf.now))
    c.args.blocks.start c.args.blocks.end c.fill_span-frames.result
    (executed_all reading range.channels lines new_block).sums
    frames (λ i channel below few. (rw (c.into.ensures, c.into-2.ensures) at span.sums) reading
    (rw c.in-Some.is at (c.in-Ok.ensures.full honest)) new_block i channel
    (omega (arith, below, frames)) few)
    (rw c.format-format.ensures.format at ((rw c.in-Some.is at (c.in-Ok.ensures.clips honest)) new_block)))
