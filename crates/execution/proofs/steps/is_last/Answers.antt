use Rattle.std.proofs.Common.{◌≡◌, ◌∙◌, inl, inr, sym, arith}
use Rattle.std.proofs.lemmas.Bool.{cases_lt}
use Rattle.std.proofs.lemmas.Bool.Decides.{nat_tests}
use Rattle.execution.specs.Marking.{done_of}
use Rattle.execution.specs.Together.{with_done}
use Rattle.execution.specs.TogetherLaws.{not_done}
use Rattle.execution.proofs.Together.{done-to-last}
use Rattle.execution.proofs.steps.is_last.Goals as goal
use Rattle.execution.proofs.steps.is_last.Goals.{else-other-job-via-then-other-job+else-not-is_done, else-other-job-via-else-other-job}

pub loop-other-init : goal.loop-other-init
loop-other-init g c k from to = absurd (omega (arith, from, to, c.group-first.ensures.first))

pub returns-then-group-first : goal.returns-then-group-first
returns-then-group-first g c = sym (done-to-last c.group-first.ensures.groups
    (omega (arith, c.loop-other.auto.other, c.group-first.ensures.first)) c.loop-other.invariant
    (λ lt same. c.if-group-first.true (c.group.ensures.first ∙ same ∙ sym c.group-first.ensures.first)))

pub returns-then-not-is_done : goal.returns-then-not-is_done
returns-then-not-is_done g c = sym (not_done (g.W.JobMaker.plan c.args.maker.now).jobs.count
    (g.W.JobMaker.plan c.args.maker.now).group c.args.job (with_done (done_of c.args.board.now) c.args.job)
    c.loop-other.other (omega (arith, c.loop-other-test.true, c.count-other-end.ensures))
    (sym c.group.ensures.first ∙ c.if-group-first.false ∙ c.group-first.ensures.first)
    (grind (arith, nat_tests, c.if-other-job.true, c.if-not-is_done.ensures)))

pub loop-other-preserved : goal.loop-other-preserved
loop-other-preserved g c k from to = elim (cases_lt k c.loop-other.other) [
  | inl before ↦ c.loop-other.invariant k from before
  | inr behind ↦ let here : k ≡ c.loop-other.other = omega (arith, behind, to) in elim c.else-other-job.branch [
    | else-other-job-via-then-other-job+else-not-is_done w ↦
        grind (arith, nat_tests, here, w.is_done.ensures, w.if-not-is_done.false)
    | else-other-job-via-else-other-job w ↦ grind (arith, nat_tests, here, w.if-other-job.false)
  ]
]

pub returns : goal.returns
returns g c = sym (done-to-last c.group-first.ensures.groups
    (omega (arith, c.loop-other.auto.other, c.group-first.ensures.first)) c.loop-other.invariant
    (λ lt same. omega (arith, lt, c.count-other-end.ensures, c.loop-other-test.false)))
