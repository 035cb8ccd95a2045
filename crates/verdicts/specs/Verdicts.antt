-- What the program prints and answers where two lists are compared.
use Rattle.std.specs.Prelude.{◌≡◌, ℕ, Bool, true, false, List, [], ◌∷◌, ◌++◌, None, Result, Ok, Err, IfErr}
use Rattle.work_terms.specs.Refusals.{Refusal, Nowhere}
use Rattle.devices.specs.declared.source.Shelf as source
use Rattle.list_terms.specs.Text.{rate_of}
use Rattle.comparing.specs.Comparing.{IsComparing}
use Rattle.comparing.specs.CompareFault as comparing
use Rattle.comparing.specs.declared.compare_fault.CompareFault.{CompareFault}
use Rattle.comparing.specs.declared.compare_fault.CompareFault.TheVariants as compare
use Rattle.comparing.specs.declared.compare_call.Compared.{Compared}
use Rattle.comparison.specs.declared.projects.Comparison.{Comparison}
use Rattle.comparison.specs.declared.projects.Comparison.TheVariants.{Same, Differs}
use Rattle.comparison.specs.declared.range.Selection.{Selection}
use Rattle.sampletime.specs.FrameRate.{frames_per_second}
use Rattle.sampletime.specs.TimeCode.{text_of}
use Rattle.clap.specs.Walk.{Text}
use Rattle.commandline.specs.CommandLine.{Selected}
use Rattle.console.specs.declared.console.Console as console
use Rattle.console.specs.declared.lines.ListOfTwo.{ListOfTwo}
use Rattle.console.specs.declared.lines.ListOfTwo.TheVariants.{First, Second}
use Rattle.console.specs.Lines.{differ_text, in_list, notices_of_list, refusal_text, same_text}
use Rattle.console.specs.Printing.{Prints}
use Rattle.verdicts.specs.Times.{bad_time_line, selection_of}

-- the line of a refusal of one of two lists
abbrev pub list_refusal_line : ListOfTwo → Refusal → List ℕ
list_refusal_line list refusal = (refusal_text refusal.number refusal.location ++ in_list list) ++ 10 ∷ []

-- of a comparison, which is refused by one of them, or since no sample was chosen
abbrev pub comparison_refusal_line : CompareFault → List ℕ
comparison_refusal_line (compare.First fault) = list_refusal_line First (comparing.refusal_of fault)
comparison_refusal_line (compare.Second fault) = list_refusal_line Second (comparing.refusal_of fault)
comparison_refusal_line compare.EmptyRange = refusal_text 58 Nowhere ++ 10 ∷ []

-- how two lists compare, by times at a rate of frames with these separators
abbrev pub comparison_text : (rate : ℕ) → (separators : List ℕ) → Comparison → List ℕ
comparison_text rate separators (Same frames channels) = same_text frames channels
comparison_text rate separators (Differs at channel first second) = differ_text (text_of rate at separators) channel

-- the notices of both lists, and how they compare
abbrev pub compared_lines : Compared → List ℕ
compared_lines told = ((notices_of_list First told.first_notices.items
    ++ notices_of_list Second told.second_notices.items)
    ++ comparison_text (frames_per_second told.rate) told.separators told.comparison) ++ 10 ∷ []

-- the lines of a comparison
abbrev pub comparison_lines : Result Compared CompareFault → List ℕ
comparison_lines (Ok told) = compared_lines told
comparison_lines (Err fault) = comparison_refusal_line fault

-- 0 where two lists sound the same, 1 where they differ
abbrev pub status_of_comparison : Comparison → ℕ
status_of_comparison (Same frames channels) = 0
status_of_comparison (Differs at channel first second) = 1

-- and where one is refused
abbrev pub comparison_status : Result Compared CompareFault → ℕ
comparison_status (Ok told) = status_of_comparison told.comparison
comparison_status (Err fault) = 1

-- this text was printed, unless a print failed
abbrev pub Tells : {O : Type 0} → console.Ghosts O → O → O → List ℕ → Type 0
Tells out = Prints out.contents out.failures

-- A command was called, whatever its faults are; its status is the answer, and its lines were printed.
pub record IsAnsweredBy {X F O : Type 0} (call : Result X F → Type 0) (status_by : Result X F → ℕ)
    (lines_by : Result X F → List ℕ) (out : console.Ghosts O) (old new : O) (status : ℕ) : Type 0 where
  pub outcome : Result X F
  pub called : call outcome
  pub status_is : status ≡ status_by outcome
  pub printed : Tells out old new (lines_by outcome)

-- a comparison
abbrev pub IsCompared : {O : Type 0} → (Result Compared CompareFault → Type 0) → console.Ghosts O → (old new : O)
    → (status : ℕ) → Type 0
IsCompared call = IsAnsweredBy call comparison_status comparison_lines

-- a comparison whose report is asked for: a refusal is printed in its line, and of the report's text nothing is said
pub record IsComparisonReported {O : Type 0} (call : Result Compared CompareFault → Type 0) (out : console.Ghosts O)
    (old new : O) (status : ℕ) : Type 0 where
  pub outcome : Result Compared CompareFault
  pub called : call outcome
  pub status_is : status ≡ comparison_status outcome
  pub refused : IfErr outcome (λ fault. Tells out old new (comparison_refusal_line fault))

-- a comparison, with a report or without
abbrev pub IsComparedAs : {O : Type 0} → Bool → (Result Compared CompareFault → Type 0) → console.Ghosts O
    → (old new : O) → (status : ℕ) → Type 0
IsComparedAs true call = IsComparisonReported call
IsComparedAs false call = IsCompared call

-- all of two lists
abbrev pub all_of_both : Selection
all_of_both = record { from = None; to = None; channels = None }

-- what is printed of a consolidation with these lines that was compared with what it was made from
abbrev pub verdict_of : (lines : List ℕ) → (rate : ℕ) → (separators : List ℕ) → Comparison → List ℕ
verdict_of lines rate separators (Same frames channels) = lines
verdict_of lines rate separators (Differs at channel first second) =
    differ_text (text_of rate at separators) channel ++ 10 ∷ []

abbrev pub verdict_lines : (lines : List ℕ) → Compared → List ℕ
verdict_lines lines told = verdict_of lines (frames_per_second told.rate) told.separators told.comparison

-- where neither has a sample both are the same
abbrev pub verified_lines : (lines : List ℕ) → Result Compared CompareFault → List ℕ
verified_lines lines (Ok told) = verdict_lines lines told
verified_lines lines (Err (compare.First fault)) = comparison_refusal_line (compare.First fault)
verified_lines lines (Err (compare.Second fault)) = comparison_refusal_line (compare.Second fault)
verified_lines lines (Err compare.EmptyRange) = lines

abbrev pub verified_status : Result Compared CompareFault → ℕ
verified_status (Ok told) = status_of_comparison told.comparison
verified_status (Err (compare.First fault)) = 1
verified_status (Err (compare.Second fault)) = 1
verified_status (Err compare.EmptyRange) = 0

-- a consolidation with these lines was compared with what it was made from
abbrev pub IsVerified : {O : Type 0} → (lines : List ℕ) → (Result Compared CompareFault → Type 0) → console.Ghosts O
    → (old new : O) → (status : ℕ) → Type 0
IsVerified lines call = IsAnsweredBy call verified_status (verified_lines lines)

-- two lists were compared at what the words choose, whose times are read at the first one's rate of frames
pub record ComparesBy {S T : Type 0} (shelf : source.Ghosts S) (stock : source.Ghosts T) (selected : Selected)
    (list other : List ℕ) (old new : S) (other_old other_new : T) (result : Result Compared CompareFault) : Type 0 where
  pub selection : Selection
  pub read : selection_of (rate_of list) selected ≡ Ok selection
  pub comparing : IsComparing shelf stock list other selection old new other_old other_new result

-- a time of what is chosen can't be read, its option is named in a line, and nothing else is printed
abbrev pub NamesBadTime : {X E : Type 0} → console.Ghosts E → (old new : E) → Result X Text → Type 0
NamesBadTime err old new read =
    (option : Text) × (read ≡ Err option) × Tells err old new (bad_time_line option)
