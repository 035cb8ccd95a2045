-- Result of opening marks.
use Rattle.std.specs.Prelude.{◌≡◌, ℕ, ◌+◌, ◌<◌, slice_index_or, Bool, false, ◌&&◌, ◌==◌, Option, None, Some, Result, Ok, Err, IsOk, List, length, take, drop, map, codes, option_map, if◌then◌else◌}
use Rattle.sound_terms.specs.Chunks.{stands_at}
use Rattle.sound_terms.specs.Waves.{u32_bytes}
use Rattle.work_terms.specs.Disk.{Files, IsEmptyOrAbsent, IsUntouched}
use Rattle.devices.specs.declared.bench.Bench.{Ghosts}
use Rattle.markfile.specs.declared.run.RunId.{RunId}
use Rattle.markfile.specs.declared.found_marks.Marks as opening
use Rattle.markfile.specs.declared.fault.MarkFault.{MarkFault}
use Rattle.markfile.specs.declared.fault.MarkFault.TheVariants.{OtherRun, BadMarks, Memory}
use Rattle.markfile.specs.declared.fault.MarkFault.TheVariants as fault
use Rattle.markfile.specs.Format.{AreMarksOf, is_marked, marks_name, sound_name}
use Rattle.markfile.specs.Started.{is_started}

-- the file exists and has this length
abbrev pub has_length : ℕ → Option ℕ → Bool
has_length n None = false
has_length n (Some length) = length == n

-- the number of blocks and the lengths of both files match the run
abbrev pub fits_run : RunId → List ℕ → ℕ → Option ℕ → Bool
fits_run run front size sound =
    stands_at (u32_bytes run.blocks) 40 front && (size == 44 + run.blocks && has_length run.length sound)

-- first error for this run, from the front of started marks, their length and the length of the rendered file
abbrev pub front_fault : RunId → List ℕ → ℕ → Option ℕ → Option MarkFault
front_fault run front size sound = if stands_at (codes "ADLMRK1") 1 front
    then (if stands_at run.digest 8 front then (if fits_run run front size sound then None else Some BadMarks)
    else Some OtherRun)
    else Some BadMarks

-- the marks of all blocks, or the error
abbrev pub told : List ℕ → Option MarkFault → Result (Option (List Bool)) MarkFault
told marks None = Ok (Some (map (λ byte. byte == 1) (drop 44 marks)))
told marks (Some fault) = Err fault

-- the marks of all blocks, None if they are not started, or the error
abbrev pub marks_in : RunId → Option ℕ → List ℕ → Result (Option (List Bool)) MarkFault
marks_in run sound marks = if is_started (Some marks)
    then told marks (front_fault run (take 44 marks) (length marks) sound)
    else Ok None

-- result of opening these marks, with the length of the rendered file
abbrev pub opened_by : RunId → Option ℕ → Option (List ℕ) → Result (Option (List Bool)) MarkFault
opened_by run sound None = Ok None
opened_by run sound (Some marks) = marks_in run sound marks

-- result of opening the marks with these files
abbrev pub opened_of : RunId → Files → Result (Option (List Bool)) MarkFault
opened_of run files = opened_by run (option_map length (files sound_name)) (files marks_name)

-- the call returns the expected result; a device failure may replace any result, out of memory only a list of marks
abbrev pub Answers : Result (Option opening.Marks) MarkFault → Result (Option (List Bool)) MarkFault → Type 0
Answers (Ok None) due = due ≡ Ok None
Answers (Ok (Some marks)) due = due ≡ Ok (Some marks.marked.items)
Answers (Err OtherRun) due = due ≡ Err OtherRun
Answers (Err BadMarks) due = due ≡ Err BadMarks
Answers (Err Memory) due = IsOk due
Answers (Err (fault.Device file)) due = Unit {0}

-- nothing is pending for the file: a crash leaves it unchanged; if it does not exist, a crash leaves no file or an
-- empty one
abbrev pub IsSettledAs : Option (List ℕ) → Option (List ℕ) → Type 0
IsSettledAs (Some file) left = left ≡ Some file
IsSettledAs None left = IsEmptyOrAbsent left

-- nothing is pending for either file
pub record AreSettled (files c : Files) : Type 0 where
  pub sound : IsSettledAs (files sound_name) (c sound_name)
  pub marks : IsSettledAs (files marks_name) (c marks_name)

-- the marks are complete, belong to the run, and the rendered file has its length
pub record AreFound (run : RunId) (files : Files) (marked : List Bool) : Type 0 where
  pub marks : List ℕ
  pub there : files marks_name ≡ Some marks
  pub ours : AreMarksOf run marks
  pub sound : option_map length (files sound_name) ≡ Some run.length
  pub count : length marked ≡ run.blocks
  pub each : (block : ℕ) → block < run.blocks → slice_index_or marked block false ≡ is_marked marks block

-- nothing is written: reads are unchanged, and no new crash outcomes are possible
abbrev pub Settles : {B : Type 0} → Ghosts B → B → B → Type 0
Settles bench = IsUntouched bench.stored bench.may_leave bench.moment bench.left_since
