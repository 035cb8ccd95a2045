-- A marked rendering as an execution sees it: its jobs, its files, and the marks that it goes on with.
use Rattle.std.proofs.Common.{◌≡◌, ◌∙◌, ℕ, ◌<◌, ◌≤◌, Bool, true, false, Some, List, [], length, take, get_or, refl, sym, ap, arith, ◌∷◌, None, All, get_or-take}
use Rattle.std.specs.Prelude.{⊤, Result, Ok, Err}
use Rattle.std.proofs.lemmas.Bool.Decides.{nat_tests}
use Rattle.std.proofs.lemmas.Option.{same_Some}
use Rattle.sound_terms.specs.Blocks.{block_count}
use Rattle.work_terms.specs.Disk.{Files}
use Rattle.job_terms.specs.Workers.{jobs_over}
use Rattle.markfile.specs.declared.run.RunId.{RunId}
use Rattle.markfile.specs.Format.{head_of, marks_name, sound_name}
use Rattle.markfile.specs.Opened.{AreFound, AreSettled}
use Rattle.execution.specs.Filled.{AreFilled}
use Rattle.execution.specs.Marking.{AreLeftBy, HoldsIn, IsRunning, Marking, is_marked, is_started}
use Rattle.execution.specs.Together.{AreGroups, are_done}
use Rattle.execution.specs.TogetherLaws.{all_done, not_done}
use Rattle.clipping.specs.declared.tally.Clips.{Clips}
use Rattle.devices.specs.Frame.{OnlyWrites}
use Rattle.devices.specs.declared.bench.Bench.{Ghosts}
use Rattle.execution.specs.Plan.{Stays}
use Rattle.execution.specs.declared.fault.PlaceFault.{PlaceFault}
use Rattle.execution.specs.declared.fault.PlaceFault.TheVariants.{Mark}
use Rattle.rendering.specs.declared.stretch.Stretch.{Stretch}
use Rattle.rendering.specs.Cut.{IsUniform, group_at, no_stretch}
use Rattle.rendering.specs.CutLaws.{cut-covers}
use Rattle.rendering.specs.Maker.{marks_of, HasSoundJobs, IsReopened, plan_of}
use Rattle.rendering.specs.Marked.{IsRunOf, MarkedWork, IsOther}
use Rattle.rendering.specs.Work.{IsRenderWork, RenderWork, done_before, whole_of, work_of}
use Rattle.rendering.specs.MakerLaws.{some_job}
use Rattle.rendering.proofs.Jobs.{job_own, are_apart, are_parts, job_sized, stretch_inside}
use Rattle.rendering.proofs.Calls.{writes_as}

-- ---- its jobs

-- each has as many bytes as are counted, a part of the file, apart from the others
pub sound_jobs : (marked : MarkedWork) → IsRenderWork marked.work → HasSoundJobs marked
sound_jobs marked is = record {
  fit = λ sources.
      record { sized = λ k below. job_sized marked.work sources is k; parts = are_parts marked.work sources is };
  apart = λ sources. are_apart marked.work sources is;
}

-- the run is the same, however its blocks are cut
pub same_run : {work : RenderWork} {run : RunId} (stretches : List Stretch) → IsRunOf work run
    → IsRunOf (record work { stretches = stretches }) run
same_run stretches of = record { blocks = of.blocks; size = of.size }

-- its blocks are cut anew
pub reopened_as : {work : RenderWork} {run : RunId} {noted clips : List Clips} {stretches : List Stretch}
    → IsRunOf work run → IsRenderWork (record work { stretches = stretches })
    → IsReopened (record { work = work; run = run; clips = noted })
    (record { work = record work { stretches = stretches }; run = run; clips = clips })
reopened_as {work} {run} {noted} {clips} {stretches} of whole = record {
  planned = refl;
  sounds = refl;
  run = refl;
  whole = record { work = whole; run = same_run stretches of };
  jobs = sound_jobs (record { work = record work { stretches = stretches }; run = run; clips = clips }) whole;
}

-- those that are marked together follow one another
pub are_groups : (work : RenderWork) → IsRenderWork work → AreGroups (length work.stretches) (group_at work.stretches)
are_groups work is k lt = (is.short.grouped k lt).first

-- ---- its files

-- a file that stays is neither of the two
pub stays_apart : (work : RenderWork) (run : RunId) → IsRenderWork work → (n : List ℕ)
    → Stays (plan_of (record { work = work; run = run; clips = [] })) n → IsOther n
stays_apart work run is n stays = (
  λ e. stays.jobs 0 (some_job work is) (sym e),
  λ e. stays.marks (λ _. None) (marks_of (record { work = work; run = run; clips = [] }) (λ _. None)) refl (sym e),
)

-- a call that places a job writes the two
pub places_as : {B : Type 0} (g : Ghosts B) (marked : MarkedWork) (result : Result ⊤ PlaceFault) {old new : B}
    → IsRenderWork marked.work
    → OnlyWrites g IsOther old new result (λ _. ⊤) (λ fault failed. fault ≡ Mark → failed marks_name)
    → OnlyWrites g (Stays (plan_of marked)) old new result (λ _. ⊤)
    (λ fault failed. fault ≡ Mark → (sources : Files) (m : Marking) → (plan_of marked).marking sources ≡ Some m
    → failed m.marks)
places_as g marked (Ok x) is w = writes_as g (stays_apart marked.work marked.run is) tt w
places_as g marked (Err fault) {new = new} is w = writes_as g (stays_apart marked.work marked.run is)
    (λ device at sources m e. rw (← same_Some (marks_of marked sources) m e) (w.failed_there device at)) w

-- ---- marks that it finds

-- whole marks are started
started_by : (marks rest : List ℕ) → take 44 marks ≡ 1 ∷ rest → 44 ≤ length marks → is_started (Some marks) ≡ true
started_by marks rest front long =
    let gate : get_or marks 0 0 ≡ 1 = sym (get_or-take 44 marks 0 0 (omega arith)) ∙ ap (λ x. get_or x 0 0) front in
    grind (arith, nat_tests, gate, long)

-- the file is filled as far as the jobs are done
pub filled_running : (marked : MarkedWork) (sources : Files) → IsRenderWork marked.work
    → {done : ℕ → Bool} {o : Files → Type 0} {files : Files} → IsRunning (marks_of marked sources) done files o
    → AreFilled (jobs_over (work_of marked.work) sources) (λ _. whole_of marked.work sources) done files
filled_running marked sources is runs = record {
  each = λ j below. record {
    bytes = runs.stands.bytes;
    there = runs.stands.there;
    size = runs.stands.size;
    same = λ i fixed. runs.stands.same i (λ k b lt from to begun ends.
        let own = job_own marked.work sources is k b lt from to in
        fixed k lt refl (omega (arith, own.0, begun)) (omega (arith, own.1, ends)));
  };
}

-- what is marked of stretches that are done together is just what is done
settled_before : (work : RenderWork) → IsRenderWork work → (done : ℕ → Bool)
    → ((k : ℕ) → k < length work.stretches → done k ≡ done_before work k) → (k : ℕ) → k < length work.stretches
    → are_done (length work.stretches) (group_at work.stretches) done k ≡ done k
settled_before work is done agrees k lt = go (done k) refl
  where
    alike : (j : ℕ) → j < length work.stretches → group_at work.stretches j ≡ group_at work.stretches k
        → done j ≡ done k
    alike j below same =
        let one = is.short.grouped j below in
        let other = is.short.grouped k lt in
        let group = group_at work.stretches k in
        agrees j below ∙ sym (one.alike group (omega (arith, same)) (omega (arith, same, one.first.before)))
        ∙ other.alike group (omega arith) other.first.before ∙ sym (agrees k lt)

    go : (b : Bool) → done k ≡ b → are_done (length work.stretches) (group_at work.stretches) done k ≡ done k
    go true e = all_done (length work.stretches) (group_at work.stretches) k done (λ j below same. alike j below same ∙ e)
        ∙ sym e
    go false e = not_done (length work.stretches) (group_at work.stretches) k done k lt refl e ∙ sym e

-- marks that were found, and stretches into which they cut the blocks
module _ {work : RenderWork} {stretches : List Stretch} {run : RunId} (sources : Files)
    (whole : IsRenderWork (record work { stretches = stretches })) (of : IsRunOf work run) where
  abbrev before : Marking
  before = marks_of (record { work = work; run = run; clips = [] }) sources

  abbrev now : Marking
  now = marks_of (record { work = record work { stretches = stretches }; run = run; clips = [] }) sources

  -- the jobs whose blocks are marked are done
  pub goes_on_running : {old new : Files → Type 0} {files : Files} {told : List Bool} → AreFound run files told
      → AreLeftBy (Some before) old → ((c : Files) → new c → old c) → ((c : Files) → new c → AreSettled files c)
      → new files → All (IsUniform told) stretches → (done : ℕ → Bool)
      → ((k : ℕ) → k < length stretches → done k ≡ done_before (record work { stretches = stretches }) k)
      → IsRunning now done files new
  goes_on_running {old} {new} {files} found left back settled is_left uniform done agrees = record {
    marks = found.marks;
    ours = record { front = found.ours.front; size = found.ours.size };
    tell = λ job b lt from to.
        let inside = stretch_inside (record work { stretches = stretches }) whole job lt in
        sym (found.each b (omega (arith, to, inside.there, of.blocks))) ∙ uniform job no_stretch lt b from to
        ∙ sym (agrees job lt)
        ∙ sym (settled_before (record work { stretches = stretches }) whole done agrees job lt);
    kept = kept;
    wave = wave;
    stands = let h = wave files is_left in record {
      bytes = h.bytes;
      there = h.there;
      size = h.holds.size;
      same = λ i is. h.holds.same i (λ b few from to.
          let job = cut-covers stretches 0 (block_count work.planned.range) b no_stretch whole.cut (omega arith)
          (omega (arith, few, of.blocks)) in
          sym (found.each b few) ∙ uniform job.place no_stretch job.there b job.behind_first job.before_end
          ∙ sym (agrees job.place job.there)
          ∙ is job.place b job.there job.behind_first job.before_end from to);
    };
  }
    where
      kept : (c : Files) → new c → c marks_name ≡ Some found.marks
      kept c at = rw found.there at (settled c at).marks

      wave : (c : Files) → new c → HoldsIn now (is_marked found.marks) (c sound_name)
      wave c at =
          let is = left c c (back c at) (back c at) (ap is_started (kept c at)
          ∙ started_by found.marks (head_of run) found.ours.front (omega (arith, found.ours.size))) in
          let h = rw (same_Some is.marks found.marks (sym is.there ∙ kept c at)) at is.sound in
          record { bytes = h.bytes; there = h.there; holds = record { size = h.holds.size; same = h.holds.same } }
