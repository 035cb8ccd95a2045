use Rattle.std.proofs.Common.{◌≡◌, ℕ, ◌*◌, ◌≤◌, List, [], sym, ap, ◌∙◌, subst, ◌+◌, ◌-◌, ◌++◌, drop, get_or, length, length-take, take, arith}
use Rattle.std.proofs.lemmas.List.{take_at}
use Rattle.std.proofs.Math.Nat.{mul-le-mul_right}
use Rattle.std.specs.List.{All}
use Rattle.sound_terms.specs.declared.block.Instruction.{Instruction}
use Rattle.std.specs.Prelude.{ℤ, pos}
use Rattle.sound_terms.specs.Blocks.{BlockState, IsBlockProgram, PlaysFull, Programmed, block_frames, executed_all}
use Rattle.sound_terms.specs.Mix.{Reading}
use Rattle.sound_terms.specs.Render.{Range}
use Rattle.sound_terms.specs.Sounds.{reading_by}
use Rattle.blockmachine.specs.Exact.{AreSumsOf}
use Rattle.blockmachine.specs.Sums.{Extent}
use Rattle.comparison.proofs.side.sum_block.Goals as goal

-- the number of sums of a block at the start of the buffer
few_sums : (range : Range) (k : ℕ) (sums : List ℤ) → length sums ≡ 4096 * range.channels
    → length (take (block_frames range k * range.channels) sums) ≡ block_frames range k * range.channels
few_sums range k sums room =
    let row : block_frames range k * range.channels ≤ 4096 * range.channels =
    mul-le-mul_right range.channels (omega arith) in
    omega (arith, length-take (block_frames range k * range.channels) sums, row, room)

pub sum-requires-clause-inside : goal.sum-requires-clause-inside
sum-requires-clause-inside g c = c.fill.ensures.inside c.args.sounds.now c.requires.inside

pub returns-in-Ok-clause-summed : goal.returns-in-Ok-clause-summed
returns-in-Ok-clause-summed g c = λ honest i channel below first last.
    let range = c.args.plan.now.range in
    let frames = block_frames range c.args.k in
    let reading : Reading = reading_by (g.S.Shelf.stored c.args.shelf.now) c.args.sounds.now in
    let start : BlockState = record { frames = 0; sums = λ i channel. pos 0; out = [] } in
    let program = c.fill.new.program.lines in
    let sums = c.args.sums.now in
    let out = c.sum.new.out in
    let count = c.frames_of.result * c.from.result in
    let wide : c.from.result ≡ range.channels = cc (c.from.ensures, c.format.ensures.format) in
    let is : count ≡ frames * range.channels =
    ap (λ (n : ℕ). n * c.from.result) c.frames_of.ensures ∙ ap (λ (n : ℕ). frames * n) wide in
    let few : length (take count sums) ≡ frames * range.channels = rw is (few_sums range c.args.k sums c.requires.room) in
    let back : take (frames * range.channels) (out ++ drop count sums) ≡ out =
    take_at out (drop count sums) (frames * range.channels) (c.sum.auto.out ∙ few) in
    let told : c.args.machine.now.channels ≡ range.channels = ap (λ (e : Extent). e.channels) c.requires.machine in
    let formed = subst (λ (n : ℕ). IsBlockProgram frames n range.depth program) (sym told) c.fill.ensures.formed in
    let long = few ∙ ap (λ n. frames * n) (sym told) in
    let summed = subst (λ (n : ℕ). AreSumsOf frames n out (executed_all reading n program start).sums) told
    (c.in-Ok.ensures.summed honest frames range.depth start formed long) in
    let said = ap (λ (p : Programmed). p.lines) c.fill.ensures.program in
    let full = subst (λ (lines : List Instruction). All (PlaysFull reading) lines) said (c.in-Ok.ensures.full honest) in
    ap (λ (l : List ℤ). get_or l (i * range.channels + (channel - 1)) (pos 0)) back
    ∙ summed i channel below first last
    ∙ ap (λ (lines : List Instruction). (executed_all reading range.channels lines start).sums i channel) said
    ∙ c.sums_exactly.ensures reading c.args.k full start i channel below last
