use Rattle.std.proofs.Common.{◌≡◌, ℕ, ◌+◌, ◌<◌, ◌≤◌, List, subst, IsTrue}
use Rattle.std.specs.Prelude.{Bool, Result, Ok, Err, IfOk}
use Rattle.std.specs.List.{All}
use Rattle.sound_terms.specs.declared.block.Instruction.{Instruction}
use Rattle.sound_terms.specs.Blocks.{BlockState, PlaysFull, block_frames, block_start, executed_all}
use Rattle.sound_terms.specs.Mix.{Reading}
use Rattle.sound_terms.specs.Render.{Range}
use Rattle.sound_terms.specs.Sounds.{reading_by}
use Rattle.work_terms.specs.Disk.{Files}
use Rattle.comparison.specs.declared.fault.CompareFault.{CompareFault}
use Rattle.comparison.specs.Alike.{AreAlike}
use Rattle.comparison.specs.Side.{IsBlockOf, SideWork, heard}
use Rattle.comparison.specs.Stored.{SumAlike}
use Rattle.comparison.proofs.SilentSides.{silent_alike}
use Rattle.comparison.proofs.StoredFrames.{block_alike}
use Rattle.comparison.proofs.sides.Sides.are_alike.Goals as goal

-- two sides are equal in a block if their programs have equal sums
sides_alike : (one two : SideWork) (k : ℕ) (files others : Files) (lines counterparts : List Instruction)
    → two.planned.range ≡ one.planned.range → IsBlockOf one k lines → IsBlockOf two k counterparts
    → SumAlike (reading_by files one.sounds) (reading_by others two.sounds) lines counterparts
    → AreAlike (block_start one.planned.range k) (block_start one.planned.range k + block_frames one.planned.range k)
    one.planned.range.channels (heard one files) (heard two others)
sides_alike one two k files others lines counterparts same mine theirs alike =
    let other : Reading = reading_by others two.sounds in
    let sums = subst (λ (r : Range). All (PlaysFull other) counterparts → (start : BlockState) (i channel : ℕ)
    → i < block_frames r k → channel ≤ r.channels
    → (executed_all other r.channels counterparts start).sums i channel
    ≡ heard two others channel (block_start r k + i)) same (theirs.sums others) in
    block_alike one.planned.range k (reading_by files one.sounds) other lines counterparts alike (heard one files)
    (heard two others) (mine.sums files) sums

-- a consequence of a positive result
answer_gives : (P Q : Type 0) → (P → Q) → (result : Result Bool CompareFault)
    → IfOk result (λ alike. IsTrue alike → P) → IfOk result (λ alike. IsTrue alike → Q)
answer_gives P Q gives (Ok alike) said = λ yes. gives (said yes)
answer_gives P Q gives (Err fault) said = tt

pub returns-then-is_silent-2-clause-alike : goal.returns-then-is_silent-2-clause-alike
returns-then-is_silent-2-clause-alike g c = λ honest sure yes.
    let one = c.args.self.now.first.work in
    let two = c.args.self.now.second.work in
    silent_alike one.planned.range two.planned.range c.args.k (heard one (g.S.Shelf.stored c.args.first_shelf.now))
    (heard two (g.T.Shelf.stored c.args.second_shelf.now)) c.args.self.now.same
    (c.is_silent.ensures.zero c.if-is_silent.true (g.S.Shelf.stored c.args.first_shelf.now))
    (c.is_silent-then-is_silent.ensures.zero c.if-is_silent-2.true (g.T.Shelf.stored c.args.second_shelf.now))

pub returns-clause-alike : goal.returns-clause-alike
returns-clause-alike g c = λ honest sure.
    let files = g.S.Shelf.stored c.args.first_shelf.now in
    let others = g.T.Shelf.stored c.args.second_shelf.now in
    let one = c.args.self.now.first.work in
    let two = c.args.self.now.second.work in
    let alike = rw (
      c.lines.ensures,
      c.lines-2.ensures,
      c.sounds.ensures,
      c.sounds-2.ensures,
      c.fill.ensures.work,
      c.fill-2.ensures.work,
    ) at (c.sum_alike.ensures.alike honest sure) in
    answer_gives (SumAlike (reading_by files one.sounds) (reading_by others two.sounds) c.fill.new.self.lines
    c.fill-2.new.self.lines)
    (AreAlike (block_start one.planned.range c.args.k)
    (block_start one.planned.range c.args.k + block_frames one.planned.range c.args.k) one.planned.range.channels
    (heard one files) (heard two others))
    (sides_alike one two c.args.k files others c.fill.new.self.lines c.fill-2.new.self.lines c.args.self.now.same
    c.fill.ensures.program c.fill-2.ensures.program)
    c.sum_alike.result alike
