-- What the marks of a rendering say, in each outcome of a crash.
use Rattle.std.proofs.Common.{◌≡◌, ◌∙◌, ℕ, ◌+◌, ◌<◌, Bool, true, Option, None, Some, List, refl, ◌∷◌, ◌++◌, ◌==◌, length, length-drop, take, drop, replicate, get_or, sym, ap, arith}
use Rattle.std.proofs.lemmas.Bool.Decides.{nat_tests}
use Rattle.std.proofs.lemmas.List.{ext_get_or, get_or-drop, get_or-replicate, length-replicate, take-append-drop}
use Rattle.sound_terms.specs.Blocks.{block_count}
use Rattle.work_terms.specs.Disk.{Files}
use Rattle.rendering.specs.CutLaws.{IsInside, cut-covers}
use Rattle.markfile.specs.declared.run.RunId.{RunId}
use Rattle.markfile.specs.Format.{head_of, marks_name, sound_name}
use Rattle.markfile.specs.Started as mark_file
use Rattle.execution.specs.Marking.{AreLeftBy, HoldsIn, IsRunning, Leaves, Marking, is_marked, is_started, settled}
use Rattle.execution.specs.TogetherLaws.{all_done}
use Rattle.rendering.specs.Maker.{IsMarkedWork, marks_of}
use Rattle.rendering.specs.Marked.{IsAllMarked, IsLeftByRun, MarkedWork, full_marks}
use Rattle.rendering.specs.Work.{IsRenderWork, RenderWork}
use Rattle.rendering.specs.Cut.{no_stretch}

-- whether marks are started, by the words of either crate
pub started_as : (file : Option (List ℕ)) → is_started file ≡ mark_file.is_started file
started_as None = refl
started_as (Some marks) = refl

pub left_by_run : (m : Marking) (outcomes : Files → Type 0) → AreLeftBy (Some m) outcomes → IsLeftByRun m outcomes
left_by_run m outcomes left c d at other started = left c d at other (started_as (c m.marks) ∙ started)

pub run_leaves : (m : Marking) (outcomes : Files → Type 0) → IsLeftByRun m outcomes → AreLeftBy (Some m) outcomes
run_leaves m outcomes left c d at other started = left c d at other (sym (started_as (c m.marks)) ∙ started)

-- it has a job
pub some_job : (work : RenderWork) → IsRenderWork work → 0 < length work.stretches
some_job work is =
    let some = is.planned.some in
    let first = cut-covers work.stretches 0 (block_count work.planned.range) 0 no_stretch is.cut (omega arith)
    (omega (arith, some)) in
    omega (arith, first.there)

-- each block is one of a job's
block_job : (marked : MarkedWork) → IsMarkedWork marked → (b : ℕ) → b < marked.run.blocks
    → IsInside marked.work.stretches no_stretch b
block_job marked is b lt = cut-covers marked.work.stretches 0 (block_count marked.work.planned.range) b no_stretch
    is.work.cut (omega arith) (omega (arith, lt, is.run.blocks))

module _ (marked : MarkedWork) (sources : Files) (is : IsMarkedWork marked) where
  abbrev m : Marking
  m = marks_of marked sources

  -- where all jobs are done each block is marked
  pub finished_marks : (done : ℕ → Bool) (files : Files) (outcomes : Files → Type 0) → IsRunning m done files outcomes
      → ((k : ℕ) → k < length marked.work.stretches → done k ≡ true) → (c : Files) → outcomes c
      → IsAllMarked marked.run (c marks_name)
  finished_marks done files outcomes runs all c left = record {
    marks = runs.marks;
    there = runs.kept c left;
    ours = record { front = runs.ours.front; size = runs.ours.size };
    all = λ b lt. let job = block_job marked is b lt in
        runs.tell job.place b job.there job.behind_first job.before_end
        ∙ all_done m.jobs m.group job.place done (λ k below same. all k below);
  }

  -- what was marked stands at each later moment
  pub marked_stays : (before after : ℕ → Bool) (outcomes : Files → Type 0) (files c : Files) (marks : List ℕ)
      → IsRunning m before files outcomes → outcomes files → files marks_name ≡ Some marks
      → Leaves m (settled m before) (settled m after) c
      → HoldsIn m (is_marked marks) (c sound_name)
  marked_stays before after outcomes files c marks runs now there left = record {
    bytes = left.wave.bytes;
    there = left.wave.there;
    holds = record {
      size = left.wave.holds.size;
      same = λ i fixed. left.wave.holds.same i (λ b few from to. still b few (fixed b few from to));
    };
  }
    where
      same_bytes : (a b : List ℕ) → Some a ≡ Some b → a ≡ b
      same_bytes a b e = cc

      still : (b : ℕ) → b < marked.run.blocks → is_marked marks b ≡ true → is_marked left.marks b ≡ true
      still b few set = let job = block_job marked is b few in
          left.still job.place b job.there job.behind_first job.before_end
          (sym (runs.tell job.place b job.there job.behind_first job.before_end)
          ∙ ap (λ x. is_marked x b) (same_bytes runs.marks marks (sym (runs.kept files now) ∙ there)) ∙ set)

-- marks that are all set
full : (run : RunId) (marks : List ℕ) → take 44 marks ≡ 1 ∷ head_of run → length marks ≡ 44 + run.blocks
    → ((b : ℕ) → b < run.blocks → is_marked marks b ≡ true) → marks ≡ full_marks run
full run marks front size set = sym (take-append-drop 44 marks) ∙ ap (λ x. x ++ drop 44 marks) front
    ∙ ap (λ x. (1 ∷ head_of run) ++ x) ones
  where
    one : (n : ℕ) → (n == 1) ≡ true → n ≡ 1
    one n e = grind (arith, nat_tests, e)

    below : (i : ℕ) → i < length (drop 44 marks) → i < run.blocks
    below i lt = omega (arith, lt, length-drop 44 marks, size)

    ones : drop 44 marks ≡ replicate run.blocks 1
    ones = ext_get_or 0 (drop 44 marks) (replicate run.blocks 1)
        (length-drop 44 marks ∙ omega (arith, size) ∙ sym (length-replicate {A = ℕ} run.blocks 1))
        (λ i lt. get_or-drop 44 marks i 0 ∙ one (get_or marks (44 + i) 0) (set i (below i lt))
        ∙ sym (get_or-replicate {A = ℕ} run.blocks i 1 0 (below i lt)))

pub full_of : (run : RunId) (file : Option (List ℕ)) → IsAllMarked run file → file ≡ Some (full_marks run)
full_of run file is = is.there ∙ ap (λ x. Some x) (full run is.marks is.ours.front is.ours.size is.all)
