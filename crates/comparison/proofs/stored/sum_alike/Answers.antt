use Rattle.std.proofs.Common.{◌<◌, ℕ, IsTrue, get_or, length, rules, arith, sym, subst}
use Rattle.std.proofs.lemmas.List.{get_or_default}
use borrow.Author.Count.{below_more}
use Rattle.sound_terms.specs.declared.block.Instruction.{Instruction}
use Rattle.sound_terms.specs.declared.block.Instruction.TheVariants.{Start}
use Rattle.sound_terms.specs.Mix.{Reading}
use Rattle.sound_terms.specs.Sounds.{reading_by}
use Rattle.work_terms.specs.Disk.{Files}
use Rattle.comparison.specs.Stored.{AddAlike}
use Rattle.comparison.proofs.stored.sum_alike.Goals as goal

pub loop-k-preserved : goal.loop-k-preserved
loop-k-preserved g c = record {
  first_quiet = search rules;
  second_quiet = search rules;
  matches = c.in_ok-alike.ensures.read.matched;
  alike = λ honest sure n d below.
      let k = c.loop-k.k in
      let lines = c.args.lines.now in
      let counterparts = c.args.counterparts.now in
      let quiet = c.loop-k.invariant.first_quiet in
      let others_quiet = c.loop-k.invariant.second_quiet in
      let found = c.in_ok-alike.ensures.alike (subst IsTrue (sym quiet.honest_same) honest)
      (subst IsTrue (sym others_quiet.honest_same) sure) c.if-not-alike.false in
      let reading : Reading = reading_by (g.S.Shelf.stored c.args.first_shelf.now) c.args.files.now.sounds.now in
      let other : Reading = reading_by (g.T.Shelf.stored c.args.second_shelf.now) c.args.files.now.others.now in
      let mine = subst (λ (stored : Files). AddAlike (reading_by stored c.args.files.now.sounds.now)
      (reading_by (g.T.Shelf.stored c.loop-k.second_shelf) c.args.files.now.others.now) (get_or lines k (Start 0))
      (get_or counterparts k (Start 0))) quiet.same found in
      let here : AddAlike reading other (get_or lines k (Start 0)) (get_or counterparts k (Start 0)) =
      subst (λ (stored : Files). AddAlike reading (reading_by stored c.args.files.now.others.now) (get_or lines k (Start 0))
      (get_or counterparts k (Start 0))) others_quiet.same mine in
      let at = below_more (λ (m : ℕ). AddAlike reading other (get_or lines m (Start 0)) (get_or counterparts m (Start 0)))
      k (λ m less. c.loop-k.invariant.alike honest sure m (Start 0) less) here n below in
      let inside : n < length lines = omega (arith, below, c.loop-k-test.true) in
      let other_inside : n < length counterparts = omega (arith, inside, c.if-lines-counterparts.false) in
      subst (λ (line : Instruction). AddAlike reading other line (get_or counterparts n d))
      (get_or_default lines n (Start 0) d inside)
      (subst (λ (line : Instruction). AddAlike reading other (get_or lines n (Start 0)) line)
      (get_or_default counterparts n (Start 0) d other_inside) at);
}
