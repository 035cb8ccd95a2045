use Rattle.std.proofs.Common.{◌≡◌, ◌+◌, ◌-◌, ◌*◌, ◌≤◌, arith, refl, ◌∙◌, mul-le-mul_right, length-take-le}
use Rattle.sound_terms.specs.Blocks.{block_frames, executed_all, program_of}
use Rattle.sound_terms.specs.Sounds.{reading_by}
use Rattle.rendering.specs.Work.{heard}
use Rattle.rendering.specs.Written.{frames_before}
use Rattle.rendering.proofs.Clipped.{blocks_clips, new_block}
use Rattle.rendering.proofs.blocks.play_block.Goals as goal

pub returns-in-Ok-clause-played : goal.returns-in-Ok-clause-played
returns-in-Ok-clause-played g c = λ honest.
    let reading = reading_by (g.S.Shelf.stored c.args.shelf.now) c.args.sounds.now in
    rw (← c.fill.ensures.sums reading (c.in-Ok.ensures.full honest) new_block)
    (rw (c.requires.ready.machine, c.format-format.ensures.format) at (c.in-Ok.ensures.ran honest new_block))

pub returns-in-Ok-clause-clips : goal.returns-in-Ok-clause-clips
returns-in-Ok-clause-clips g c = λ honest.
    let plan = c.args.plan.now in
    let range = plan.range in
    let k = c.args.k in
    let n = block_frames range k in
    let reading = reading_by (g.S.Shelf.stored c.args.shelf.now) c.args.sounds.now in
    let size : c.frames_of.result * c.from.result ≡ n * range.channels =
    rw (c.frames_of.ensures, c.from.ensures, c.format-format.ensures.format) refl in
    let most : n * range.channels ≤ 4096 * range.channels = mul-le-mul_right range.channels (omega arith) in
    let long = length-take-le (c.frames_of.result * c.from.result) c.args.samples.now
    (omega (arith, size, most, c.requires.ready.samples)) in
    let full = rw c.fill.ensures.program at (c.in-Ok.ensures.full honest) in
    let clips = c.in-Ok.ensures.clips honest n new_block (rw c.requires.ready.machine (long ∙ size)) in
    let count : n ≡ frames_before range (k + 1) - frames_before range k = omega (arith, c.requires.room.there) in
    blocks_clips range (heard plan c.args.sounds.now (g.S.Shelf.stored c.args.shelf.now)) k (k + 1) n
    (executed_all reading range.channels (program_of plan.pieces range k) new_block).sums count
    (λ i channel below few. c.sums_exactly.ensures reading k full new_block i channel below few)
    (rw (c.requires.ready.machine, c.format-format.ensures.format, c.fill.ensures.program) at clips)
