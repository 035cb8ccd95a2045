use Rattle.std.proofs.Common.{◌≡◌, ◌∙◌, ◌⊎◌, true, inl, inr, sym}
use Rattle.clap.specs.Walk.{texts}
use Rattle.clap.specs.Words.{kind_of}
use Rattle.commandline.specs.CommandLine.{Asked, verifies}
use Rattle.commandline.specs.Request.{asked_of}
use Rattle.commandline.specs.RequestLaws.{same_asked}
use Rattle.list_terms.specs.Text.{rate_of}
use Rattle.answers.specs.Answers.{MayBeMistaken}
use Rattle.answers.specs.MistakenLaws.{mistaken_words}
use Rattle.answers.proofs.words.answer.Goals as goal

pub returns-in-Err-clause-mistake : goal.returns-in-Err-clause-mistake
returns-in-Err-clause-mistake g c = λ two.
    mistaken_words
    (λ (asked : Asked). MayBeMistaken g.E.Console c.args.err.now c.answer_error.new.err (rate_of c.args.list.now) asked ⊎ (verifies (texts c.args.words.now) ≡ true))
    (texts c.args.words.now) g.E.Console c.args.err.now c.answer_error.new.err (kind_of c.in-Err.error)
    c.answer_error.result c.in-Err.ensures.refused c.in-Err.ensures.help c.answer_error.ensures.help
    c.answer_error.ensures.ran_out two

pub returns-then-parsed-clause-mistake : goal.returns-then-parsed-clause-mistake
returns-then-parsed-clause-mistake g c = λ two.
    inr (inl (asked_of c.in-Ok.parsed.request, c.in-Ok.ensures.read, inr (sym c.in-Ok.ensures.verify ∙ c.if-parsed.true)))

pub returns-clause-consolidated : goal.returns-clause-consolidated
returns-clause-consolidated g c place media target handle report request well =
    let same : c.out-1.given.0 ≡ c.answer_request.new.terminal.out.now =
    c.out-1.given.1 (sym c.answer_request.ensures.consoles.0) in
    rw same
    (c.answer_request.ensures.consolidated place media target handle report
    (same_asked _ _ (sym c.in-Ok.ensures.read ∙ request)))
