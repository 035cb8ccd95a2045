use Rattle.std.proofs.Common.{◌≡◌, ℕ, All, List, IsTrue, Option, Some, take, get_or, sym, subst, arith, rules}
use Rattle.std.specs.Prelude.{ℤ, IfSome}
use Rattle.std.proofs.lemmas.List.{take_all}
use Rattle.std.proofs.lemmas.List.Elements.{All-more}
use Rattle.sound_terms.specs.declared.block.Instruction.{Instruction}
use Rattle.sound_terms.specs.declared.block.Instruction.TheVariants.{Start}
use Rattle.sound_terms.specs.declared.block.Stretch.{Stretch}
use Rattle.sound_terms.specs.declared.piece.Shape.{Shape}
use Rattle.sound_terms.specs.Mix.{Reading}
use Rattle.sound_terms.specs.Blocks.{BlockState, IsFull, PlaysFull, addition_of, executed_all, sums_with}
use Rattle.sound_terms.specs.Sounds.{reading_by}
use Rattle.work_terms.specs.Disk.{Files}
use Rattle.blockmachine.specs.Lines.{silent}
use Rattle.blockmachine.specs.Sums.{AreSums}
use Rattle.blockmachine.proofs.Ran.{adds_more}
use Rattle.blockmachine.proofs.machine.sum_all.Goals as goal

pub loop-k-preserved : goal.loop-k-preserved
loop-k-preserved g c =
    let quiet = c.loop-k.invariant.quiet in
    let sounds = c.args.sounds.now in
    let reading : Reading = reading_by (g.S.Shelf.stored c.args.shelf.now) sounds in
    let lines = c.args.lines.now in
    let n = c.loop-k.k in
    let line : Instruction = get_or lines n (Start 0) in
    let stretch = c.in-Some.stretch in
    let shape = c.in-Some.shape in
    let is : addition_of line ≡ Some (stretch, shape) = sym c.in-Some.ensures in
    record {
      same_extent = search rules;
      held = search rules;
      quiet = search rules;
      summed = λ honest channels begun.
          let sums = c.add_stretch.new.sums in
          let mid : BlockState = executed_all reading channels (take n lines) (silent begun) in
          let new = c.in_ok-add_stretch.ensures.added (subst IsTrue (sym quiet.honest_same) honest) mid.sums
          (c.loop-k.invariant.summed honest channels begun) in
          let same = subst (λ (stored : Files). AreSums sums (sums_with (reading_by stored sounds) stretch shape mid.sums))
          quiet.same new in
          subst (λ (all : ℕ → ℕ → ℤ). AreSums sums all)
          (adds_more reading channels n lines stretch shape (silent begun) (omega arith) is) same;
      full = λ honest.
          let new = c.in_ok-add_stretch.ensures.full (subst IsTrue (sym quiet.honest_same) honest) in
          let same = subst (λ (stored : Files). IsFull (reading_by stored sounds) stretch) quiet.same new in
          All-more (PlaysFull reading) lines n (Start 0) (omega arith) (c.loop-k.invariant.full honest)
          (subst (λ (added : Option (Stretch × Shape)). IfSome added (λ a. IsFull reading a.0)) (sym is) same);
    }

pub returns-clause-summed : goal.returns-clause-summed
returns-clause-summed g c = λ honest channels begun.
    let sums = c.loop-k.sums in
    let lines = c.args.lines.now in
    let reading : Reading = reading_by (g.S.Shelf.stored c.args.shelf.now) c.args.sounds.now in
    let all : take c.loop-k.k lines ≡ lines =
    take_all c.loop-k.k lines c.loop-k-test.false in
    subst (λ (l : List Instruction). AreSums sums (executed_all reading channels l (silent begun)).sums) all
    (c.loop-k.invariant.summed honest channels begun)

pub returns-clause-full : goal.returns-clause-full
returns-clause-full g c = λ honest.
    let lines = c.args.lines.now in
    let reading : Reading = reading_by (g.S.Shelf.stored c.args.shelf.now) c.args.sounds.now in
    let all : take c.loop-k.k lines ≡ lines =
    take_all c.loop-k.k lines c.loop-k-test.false in
    subst (λ (l : List Instruction). All (PlaysFull reading) l) all (c.loop-k.invariant.full honest)
