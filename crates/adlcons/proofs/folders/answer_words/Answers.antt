use Rattle.std.proofs.Common.{◌≡◌, ◌∙◌, ℕ, Bool, false, inl, inr, subst, sym, true}
use Rattle.devices.specs.declared.source.Shelf as source
use Rattle.devices.specs.declared.bench.Bench as output
use Rattle.shelf.specs.Folder.{OutputFolder, SourceFolder}
use Rattle.clap.specs.Walk.{texts}
use Rattle.clap.specs.Words.{kind_of}
use Rattle.commandline.specs.CommandLine.{Asked}
use Rattle.commandline.specs.Request.{asked_of}
use Rattle.commandline.specs.RequestLaws.{same_asked}
use Rattle.console.specs.declared.console.Console as console
use Rattle.answers.specs.MistakenLaws.{mistaken_words}
use Rattle.adlcons.specs.Openings.{AnswersInFolders, CantBeDone}
use Rattle.adlcons.proofs.folders.answer_words.Goals as goal

-- whether what is written is compared is said in words
verifying : {O : Type 0} (shelf : source.Ghosts SourceFolder) (bench : output.Ghosts OutputFolder)
    (out : console.Ghosts O) (old new : O) (status : ℕ) (asked : Asked) (given said : Bool) → given ≡ said
    → AnswersInFolders shelf bench out given old new status asked
    → AnswersInFolders shelf bench out said old new status asked
verifying shelf bench out old new status asked given said is answered = rw (sym is) answered

pub returns-clause-checked : goal.returns-clause-checked
returns-clause-checked g c list media request = λ done.
    subst (AnswersInFolders _ _ _ _ _ _ _) (same_asked _ _ (sym c.in-Ok.ensures.read ∙ request))
    c.answer_parsed.ensures.answered

pub returns-clause-reported : goal.returns-clause-reported
returns-clause-reported g c list media request = λ done.
    subst (AnswersInFolders _ _ _ _ _ _ _) (same_asked _ _ (sym c.in-Ok.ensures.read ∙ request))
    c.answer_parsed.ensures.answered

pub returns-clause-rendered : goal.returns-clause-rendered
returns-clause-rendered g c list media target chosen request =
    subst (AnswersInFolders _ _ _ _ _ _ _) (same_asked _ _ (sym c.in-Ok.ensures.read ∙ request))
    c.answer_parsed.ensures.answered

pub returns-clause-resumed : goal.returns-clause-resumed
returns-clause-resumed g c list media target chosen request =
    subst (AnswersInFolders _ _ _ _ _ _ _) (same_asked _ _ (sym c.in-Ok.ensures.read ∙ request))
    c.answer_parsed.ensures.answered

pub returns-clause-compared : goal.returns-clause-compared
returns-clause-compared g c list media other other_media selected request =
    subst (AnswersInFolders _ _ _ _ _ _ _) (same_asked _ _ (sym c.in-Ok.ensures.read ∙ request))
    c.answer_parsed.ensures.answered

pub returns-clause-consolidated : goal.returns-clause-consolidated
returns-clause-consolidated g c list media target handle form request plain = λ done.
    subst (AnswersInFolders _ _ _ false _ _ _) (same_asked _ _ (sym c.in-Ok.ensures.read ∙ request))
    (verifying _ _ _ _ _ _ _ _ _ (c.in-Ok.ensures.verify ∙ plain) c.answer_parsed.ensures.answered)

pub returns-clause-verified : goal.returns-clause-verified
returns-clause-verified g c list media target handle form request asked = λ done.
    subst (AnswersInFolders _ _ _ true _ _ _) (same_asked _ _ (sym c.in-Ok.ensures.read ∙ request))
    (verifying _ _ _ _ _ _ _ _ _ (c.in-Ok.ensures.verify ∙ asked) c.answer_parsed.ensures.answered)

pub returns-clause-mistake : goal.returns-clause-mistake
returns-clause-mistake g c = λ two.
    inr (inl (asked_of c.in-Ok.parsed.request, c.in-Ok.ensures.read, c.answer_parsed.ensures.mistake two))

pub returns-in-Err-clause-mistake : goal.returns-in-Err-clause-mistake
returns-in-Err-clause-mistake g c = λ two.
    mistaken_words (CantBeDone g.E.Console c.args.err.now c.answer_error.new.err) (texts c.args.words.now) g.E.Console
    c.args.err.now c.answer_error.new.err
    (kind_of c.in-Err.error) c.answer_error.result c.in-Err.ensures.refused c.in-Err.ensures.help
    c.answer_error.ensures.help c.answer_error.ensures.ran_out two
