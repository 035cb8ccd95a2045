-- What a rendering with a report leaves: what the rendering leaves by itself, and then its report.
use Rattle.std.specs.Prelude.{◌≡◌, ◌≢◌, ◌⊎◌, ℕ, ⊤, IsTrue, Option, None, Some, List, [], Result, Ok, Err, IfErr, IfOk, OnOk}
use Rattle.devices.specs.declared.source.Shelf as source
use Rattle.devices.specs.declared.bench.Bench as output
use Rattle.devices.specs.Frame.{OnlyWrites}
use Rattle.work_terms.specs.Disk.{IsDurable, LeavesOthers}
use Rattle.list_terms.specs.Accepted.{OptionValues}
use Rattle.list_terms.specs.Steps.{ok_map}
use Rattle.markfile.specs.Opened.{opened_of}
use Rattle.renderreport.specs.Report.{Facts, content, report_name, report_text, sound_name}
use Rattle.rendering.specs.Clipping.{marked_in}
use Rattle.rendering.specs.Marked.{run_of}
use Rattle.rendering.specs.declared.job_length.JobLength.{JobLength}
use Rattle.sound_terms.specs.declared.Depth.{Depth}
use Rattle.consolidate.specs.Clipping.{ClipsList}
use Rattle.consolidate.specs.Commands.{HoldsOfOutput, IsRendering}
use Rattle.consolidate.specs.Resuming.{IsResuming}
use Rattle.consolidate.specs.declared.choice.Clipping as clipped
use Rattle.consolidate.specs.declared.choice.RenderReport.{RenderReport}
use Rattle.consolidate.specs.declared.fault.Fault.{Fault}
use Rattle.consolidate.specs.declared.fault.Fault.TheVariants as fault
use Rattle.consolidate.specs.declared.fault.OutputFile.TheVariants as file
use Rattle.consolidate.specs.declared.render_call.Rendered.{Rendered}
use Rattle.consolidate.specs.declared.render_call.RenderedSound.{RenderedSound}
use Rattle.consolidate.specs.declared.resume_call.Resumed.{Resumed}
use Rattle.consolidate.specs.declared.resume_call.ResumedSound.{ResumedSound}

-- by the program of this name and version
pub record SoundReport : Type 0 where
  pub program : List ℕ
  pub version : List ℕ

abbrev pub asked_of : RenderReport → SoundReport
asked_of report = record { program = report.program.now; version = report.version.now }

-- what is reported of a list that was rendered to this depth: so many frames, this was clipped, and so many blocks were
-- marked before, where it was gone on with
abbrev pub sound_facts : SoundReport → (list : List ℕ) → Depth → (frames : ℕ) → clipped.Clipping → (marked : Option ℕ)
    → Facts
sound_facts asked list depth frames clipping marked = record {
  program = asked.program;
  version = asked.version;
  list = list;
  depth = depth;
  start = clipping.start;
  frames = frames;
  channels = clipping.channels;
  clips = clipping.clips;
  marked = marked;
}

abbrev pub rendered_facts : SoundReport → (list : List ℕ) → Depth → RenderedSound → Facts
rendered_facts asked list depth made = sound_facts asked list depth made.rendered.frames made.clipping None

abbrev pub resumed_facts : SoundReport → (list : List ℕ) → Depth → ResumedSound → Facts
resumed_facts asked list depth made =
    sound_facts asked list depth made.resumed.frames made.clipping (Some made.resumed.marked)

-- 62, at the rendered file, which is read again, or at the report
abbrev pub IsOfReport : Fault → Type 0
IsOfReport failure = (failure ≡ fault.Output file.Rendering) ⊎ (failure ≡ fault.Output file.RenderReport)

module _ {B : Type 0} (bench : output.Ghosts B) where
  -- The report of these facts was written, with the digest of the rendered file as it is, and no other file was changed;
  -- the device failed at one of the two.
  pub record WritesReport {X : Type 0} (facts : Facts) (old new : B) (result : Result X Fault) : Type 0 where
    pub written : IsTrue (bench.honest old) → OnOk result (bench.stored new report_name
        ≡ Some (report_text facts (content (bench.stored old) sound_name)))
    pub durable : IsTrue (bench.honest old)
        → OnOk result (IsDurable report_name (bench.stored new) (bench.may_leave new))
    pub beside : LeavesOthers bench.may_leave bench.moment bench.left_since report_name old new
    pub only_writes : OnlyWrites bench (λ n. n ≢ report_name) old new result (λ _. ⊤) HoldsOfOutput
    pub failure : IfErr result IsOfReport

  -- the same answer, and nothing written
  pub record IsPassedOn {X : Type 0} (old new : B) (failure : Fault) (result : Result X Fault) : Type 0 where
    pub answer : result ≡ Err failure
    pub unwritten : new ≡ old

  -- where a call ended well, its report, and the call's answer with it
  pub record ReportsAnswer {X : Type 0} (facts : Facts) (called : X) (old new : B) (result : Result X Fault) : Type 0
    where
      pub report : WritesReport facts old new result
      pub answer : IfOk result (λ given. given ≡ called)

  -- a call with this outcome was reported by these facts, where it ended well
  abbrev pub ReportsOutcome : {Y X : Type 0} → (Y → Facts) → (Y → X) → B → B → Result Y Fault → Result X Fault → Type 0
  ReportsOutcome facts answer old new (Ok made) result = ReportsAnswer (facts made) (answer made) old new result
  ReportsOutcome facts answer old new (Err failure) result = IsPassedOn old new failure result

module _ {S B : Type 0} (shelf : source.Ghosts S) (bench : output.Ghosts B) where
  -- The list was rendered in jobs of this length, and then its report was written, as it is asked for.
  pub record IsReportedRendering (asked : SoundReport) (jobs : JobLength) (list : List ℕ) (values : OptionValues)
      (shelf_old shelf_new : S) (bench_old bench_new : B) (result : Result Rendered Fault) : Type 0 where
    pub between : B
    pub outcome : Result RenderedSound Fault
    pub rendering : IsRendering shelf bench jobs list values shelf_old shelf_new bench_old between
        (ok_map (λ made. made.rendered) outcome)
    pub clips : IsTrue (shelf.honest shelf_old) → IfOk outcome (λ made.
        ClipsList list values (shelf.stored shelf_old) (λ _. []) made.clipping)
    pub reports : ReportsOutcome bench (rendered_facts asked list values.depth) (λ made. made.rendered) between
        bench_new outcome result

  -- its rendering was gone on with, and then its report was written
  pub record IsReportedResuming (asked : SoundReport) (jobs : JobLength) (list : List ℕ) (values : OptionValues)
      (shelf_old shelf_new : S) (bench_old bench_new : B) (result : Result Resumed Fault) : Type 0 where
    pub between : B
    pub outcome : Result ResumedSound Fault
    pub resuming : IsResuming shelf bench jobs list values shelf_old shelf_new bench_old between
        (ok_map (λ made. made.resumed) outcome)
    pub clips : IsTrue (shelf.honest shelf_old) → IsTrue (bench.honest bench_old) → IfOk outcome (λ made.
        ClipsList list values (shelf.stored shelf_old)
        (λ range. marked_in (opened_of (run_of list range) (bench.stored bench_old))) made.clipping)
    pub reports : ReportsOutcome bench (resumed_facts asked list values.depth) (λ made. made.resumed) between
        bench_new outcome result
