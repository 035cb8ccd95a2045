-- What is answered to a request over one list, by what it asks for.
use Rattle.std.specs.Prelude.{◌≡◌, ◌≢◌, ℕ, IsTrue, ⊤, List, Result, Err}
use Rattle.clap.specs.Walk.{Text}
use Rattle.devices.specs.declared.source.Shelf as source
use Rattle.devices.specs.declared.bench.Bench as output
use Rattle.passes.specs.Left.{Leaving}
use Rattle.list_terms.specs.Text.{rate_of}
use Rattle.rendering.specs.declared.job_length.JobLength.{JobLength}
use Rattle.consolidate.specs.Commands.{IsConsolidation}
use Rattle.commandline.specs.CommandLine.{Asked, Check, Report, Render, Resume, Consolidate, Compare, Show, Explain, ExplainNotice}
use Rattle.checkreport.specs.Reported.{IsReported}
use Rattle.console.specs.declared.console.Console as console
use Rattle.verdicts.specs.Times.{bad_time_line}
use Rattle.verdicts.specs.Verdicts.{Tells}
use Rattle.answers.specs.Answers.{IsAnswered, IsChecked, IsReportPrinted, RendersBy, ResumesBy, accepted_lines, asking, rendered_lines, resumed_lines, written_lines}
use Rattle.answers.specs.Times.{part_of, values_of}

-- where a time can't be read, its option is named in a line, and the status is 2
abbrev pub RefusesTime : {X E : Type 0} → console.Ghosts E → (old new : E) → (status : ℕ) → Result X Text → Type 0
RefusesTime err old new status read =
    (option : Text) → read ≡ Err option → (status ≡ 2) × Tells err old new (bad_time_line option)

-- What stood before a request, and what stands behind it: the sources, the outputs, and what was printed on standard
-- output and on standard error.
pub record Around (S B O E : Type 0) : Type 0 where
  pub shelf_old : S
  pub shelf_new : S
  pub bench_old : B
  pub bench_new : B
  pub out_old : O
  pub out_new : O
  pub err_old : E
  pub err_new : E

-- The command that is asked for was called over the list, and its answer is printed, or a time that can't be read is
-- named. A rendering has jobs of this length, and a consolidation leaves these pieces of the entries; a check, a report, a
-- picture and an explanation write nothing. Of the picture and of the explanation itself nothing is said.
abbrev pub AnswersAsked : {S B O E : Type 0} → source.Ghosts S → output.Ghosts B → console.Ghosts O → console.Ghosts E
    → JobLength → Leaving → (list : List ℕ) → Around S B O E → (status : ℕ) → Asked → Type 0
AnswersAsked shelf bench out err jobs leave list at status (Check path media) =
    IsAnswered (IsChecked shelf list at.shelf_old at.shelf_new) accepted_lines out at.out_old at.out_new status
    × (at.bench_new ≡ at.bench_old)
AnswersAsked shelf bench out err jobs leave list at status (Report path media) =
    (IsTrue (shelf.honest at.shelf_old)
    → IsReported list (shelf.stored at.shelf_old) out at.out_old at.out_new status)
    × IsReportPrinted (shelf.honest at.shelf_old) list (shelf.stored at.shelf_old) out at.out_old at.out_new status
    × (at.bench_new ≡ at.bench_old)
AnswersAsked shelf bench out err jobs leave list at status (Render path media target chosen) =
    (status ≢ 2 → IsAnswered
    (RendersBy shelf bench jobs chosen list at.shelf_old at.shelf_new at.bench_old at.bench_new)
    rendered_lines out at.out_old at.out_new status)
    × RefusesTime err at.err_old at.err_new status (values_of (rate_of list) chosen)
AnswersAsked shelf bench out err jobs leave list at status (Resume path media target chosen) =
    (status ≢ 2 → IsAnswered
    (ResumesBy shelf bench jobs chosen list at.shelf_old at.shelf_new at.bench_old at.bench_new)
    resumed_lines out at.out_old at.out_new status)
    × RefusesTime err at.err_old at.err_new status (values_of (rate_of list) chosen)
AnswersAsked shelf bench out err jobs leave list at status (Consolidate path media target handle form) =
    IsAnswered (IsConsolidation shelf bench leave list handle (asking form list) at.shelf_old at.shelf_new
    at.bench_old at.bench_new) written_lines out at.out_old at.out_new status
AnswersAsked shelf bench out err jobs leave list at status (Compare path media other other_media selected) = ⊤
AnswersAsked shelf bench out err jobs leave list at status (Show path media handle drawn) =
    RefusesTime err at.err_old at.err_new status (part_of (rate_of list) drawn) × (at.bench_new ≡ at.bench_old)
AnswersAsked shelf bench out err jobs leave list at status (Explain number) =
    (status ≢ 1) × (at.shelf_new ≡ at.shelf_old) × (at.bench_new ≡ at.bench_old)
AnswersAsked shelf bench out err jobs leave list at status (ExplainNotice number) =
    (status ≢ 1) × (at.shelf_new ≡ at.shelf_old) × (at.bench_new ≡ at.bench_old)
