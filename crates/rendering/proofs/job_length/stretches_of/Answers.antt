use Rattle.std.proofs.Common.{◌∙◌, ap, arith, refl}
use Rattle.rendering.specs.CutLaws.{cut-few}
use Rattle.rendering.proofs.Cuts.{cut-here, cut-on, cut-push}
use Rattle.rendering.proofs.job_length.stretches_of.Goals as goal
use Rattle.rendering.proofs.job_length.stretches_of.Goals.{then-ends_here+in_ok-push, else-ends_here}

pub loop-i-preserved : goal.loop-i-preserved
loop-i-preserved c = elim c.if-ends_here.branch [
  | then-ends_here+in_ok-push w ↦
      rw (w.first-is, w.done-is, ap (λ v. v.items) w.stretches-is ∙ w.in_ok-push.ensures.items)
      (cut-here c.loop-i.invariant w.group_of_next-group.result c.requires.some
      (rw w.as_slice.ensures.value at w.group_of_next-group.ensures) (w.if-ends_here.ensures.some refl)
      (w.if-ends_here.ensures.full refl))
  | else-ends_here w ↦ rw (w.first-is, w.done-is, w.stretches-is)
      (cut-on c.loop-i.invariant c.requires.some (w.if-ends_here.ensures.goes_on refl))
]

pub returns-clause-cut : goal.returns-clause-cut
returns-clause-cut c = rw c.in_ok-push-2.ensures.items
    (cut-push c.loop-i.stretches.items 0 c.loop-i.first _ c.loop-i.invariant.cut refl (omega arith))

pub group_of_next-group-requires-clause-few : goal.group_of_next-group-requires-clause-few
group_of_next-group-requires-clause-few c =
    omega (arith, cut-few _ 0 _ c.loop-i.invariant.cut, c.loop-i.invariant.within, c.requires.few)

pub group_of_next-group-requires-2-clause-few : goal.group_of_next-group-requires-2-clause-few
group_of_next-group-requires-2-clause-few c =
    omega (arith, cut-few _ 0 _ c.loop-i.invariant.cut, c.loop-i.invariant.within, c.requires.few)

pub returns-clause-grouped : goal.returns-clause-grouped
returns-clause-grouped c = rw c.in_ok-push-2.ensures.items
    ((rw c.as_slice-2.ensures.value at c.group_of_next-group-2.ensures) _ refl refl)
