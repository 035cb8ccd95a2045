use Rattle.std.proofs.Common.{◌≡◌, ◌≢◌, ◌⊎◌, ◌∙◌, ℕ, List, [], Option, Some, Result, Ok, Err, ap, arith, codes, refl, subst, sym}
use Rattle.std.specs.Io.KnownBytes.{Appends}
use Rattle.shelf.specs.Folder.{OutputFolder, SourceFolder, folder_named}
use Rattle.shelf.specs.declared.Overwrite.TheVariants.{Never}
use Rattle.devices.specs.declared.source.Shelf as source
use Rattle.devices.specs.declared.bench.Bench as output
use Rattle.sound_terms.specs.Passes.{standard_groups}
use Rattle.commandline.specs.declared.choice.MediaReport.{MediaReport}
use Rattle.consolidate.specs.Commands.{IsConsolidation}
use Rattle.console.specs.declared.console.Console as console
use Rattle.console.specs.declared.lines.ListOfTwo.TheVariants.{Second}
use Rattle.consolidate.specs.declared.Fault.{Fault}
use Rattle.consolidate.specs.declared.Written.{Written}
use Rattle.verdicts.specs.Verdicts.{Tells}
use Rattle.answers.specs.Answers.{IsAnswered, asking, lines_of, status_of, written_lines}
use Rattle.adlcons.specs.Openings.{AnswersVerified, ComparesWritten, IsListUnread, VerifiesInFolders}
use Rattle.adlcons.proofs.verification.verify_between.Goals as goal

-- by what is printed of held lines, which are those of an outcome
answers_by : {O : Type 0} (shelf : source.Ghosts SourceFolder) (out : console.Ghosts O) (list target held : List ℕ)
    (before : SourceFolder) (old new : O) (answer status : ℕ) (outcome : Result Written Fault)
    → held ≡ lines_of written_lines outcome → answer ≡ status_of outcome
    → (answer ≡ 1 → (status ≡ 1) × Tells out old new held)
    → (answer ≢ 1 → IsListUnread out Second (codes "consolidated.adl") old new status
    ⊎ ComparesWritten shelf out list held target before old new status)
    → AnswersVerified shelf out list target before old new status outcome
answers_by shelf out list target held before old new answer status (Ok told) lines answered refused done =
    subst (λ (text : List ℕ). IsListUnread out Second (codes "consolidated.adl") old new status
    ⊎ ComparesWritten shelf out list text target before old new status) lines (done (λ one. cc))
answers_by shelf out list target held before old new answer status (Err fault) lines answered refused done =
    subst (λ (text : List ℕ). (status ≡ 1) × Tells out old new text) lines (refused answered)

-- what was printed on a console that had nothing is all that it has
appended : (old new : Option (List ℕ)) (held text : List ℕ) → old ≡ Some [] → new ≡ Some held → Appends old new text
    → held ≡ text
appended old new held text nothing all appends = rw (nothing, all) at appends

ends : {O H : Type 0} (shelf : source.Ghosts SourceFolder) (bench : output.Ghosts OutputFolder) (out : console.Ghosts O)
    (hold : console.Ghosts H) (list media target held : List ℕ) (handle : ℕ) (report : MediaReport)
    (before after : SourceFolder) (empty full : OutputFolder) (begun ended : H) (old new : O) (answer status : ℕ)
    → before.folder ≡ folder_named media → empty.folder ≡ folder_named target → empty.overwrite ≡ Never
    → IsAnswered (IsConsolidation shelf bench standard_groups list handle (asking report list) before after empty full)
    written_lines hold begun ended answer
    → hold.contents begun ≡ Some [] → hold.contents ended ≡ Some held
    → hold.failures begun ≡ 0 → hold.failures ended ≡ 0
    → (answer ≡ 1 → (status ≡ 1) × Tells out old new held)
    → (answer ≢ 1 → IsListUnread out Second (codes "consolidated.adl") old new status
    ⊎ ComparesWritten shelf out list held target after old new status)
    → VerifiesInFolders shelf bench out handle report media target old new status
ends shelf bench out hold list media target held handle report before after empty full begun ended old new answer status
    folder output careful answered nothing all none none_later refused done = record {
      list = list;
      before = before;
      after = after;
      empty = empty;
      full = full;
      folder = folder;
      output = output;
      careful = careful;
      outcome = answered.outcome;
      consolidated = answered.called;
      answered = answers_by shelf out list target held after old new answer status answered.outcome
          (appended (hold.contents begun) (hold.contents ended) held _ nothing all
          (answered.printed.printed (omega (arith, none, none_later), none_later ∙ sym none)))
          answered.status_is refused done;
    }

pub returns-clause-answered : goal.returns-clause-answered
returns-clause-answered g c =
    let same : c.lines-2-1.given.0 ≡ c.answer_standard-answered.new.terminal.out.now =
    c.lines-2-1.given.1 (sym c.answer_standard-answered.ensures.consoles.0) in
    ends _ _ _ _ c.args.work.list.now _ _ c.in-Some.held.now c.args.work.handle c.args.work.report c.args.shelf.now
    c.answer_standard-answered.new.shelf c.args.bench.now c.answer_standard-answered.new.bench c.new-lines.result
    c.answer_standard-answered.new.terminal.out.now c.args.out.now c.put_answer-status.new.out c.in-Ok.answer
    c.put_answer-status.result c.requires.media c.requires.output
    c.requires.careful (c.in-Ok.ensures.consolidated _ _ _ c.args.work.handle c.args.work.report refl)
    (ap Some c.new-lines.ensures.bytes) (rw same at (ap Some (sym c.in-Some.ensures.0))) c.new-lines.ensures.failures
    (rw same at c.in-Some.ensures.1) c.put_answer-status.ensures.refused c.put_answer-status.ensures.done
