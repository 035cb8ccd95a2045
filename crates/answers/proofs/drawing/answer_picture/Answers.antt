use Rattle.std.proofs.Common.{◌∙◌, ℕ, ap, sym}
use Rattle.commandline.specs.Request.{drawn_of}
use Rattle.verdicts.specs.BadTime.{name_of}
use Rattle.answers.specs.Times.{part_of}
use Rattle.answers.proofs.drawing.answer_picture.Goals as goal

pub returns-in-Err-clause-mistake : goal.returns-in-Err-clause-mistake
returns-in-Err-clause-mistake g c = λ two. (
  name_of c.in-Err.bad,
  ap (λ (rate : ℕ). part_of rate (drawn_of c.args.drawing.drawn)) (sym c.rate_of.ensures) ∙ c.in-Err.ensures.bad,
  c.refuse_time.ensures.printed,
)
