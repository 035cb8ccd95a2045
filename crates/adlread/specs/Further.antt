-- The further faults of a text, after its first one.
use Rattle.std.specs.Prelude.{◌≡◌, ℕ, ◌+◌, ◌==◌, ◌||◌, Bool, true, false, List, [], ◌∷◌, Option, None, Some, Ok, Err, if◌then◌else◌, codes, option_map, unwrap_or}
use Rattle.work_terms.specs.Refusals.{Refusal}
use Rattle.sampletime.specs.FrameRate.{frames_per_second}
use Rattle.list_terms.specs.declared.Location.{Location}
use Rattle.list_terms.specs.declared.Location.TheVariants as location
use Rattle.list_terms.specs.declared.TextFault.{TextFault}
use Rattle.list_terms.specs.declared.TextFault.TheVariants as fault
use Rattle.list_terms.specs.Fields.{is_keyword}
use Rattle.list_terms.specs.Lines.{lines_of}
use Rattle.list_terms.specs.Project.{ListProject}
use Rattle.list_terms.specs.Text.{Context, LocatedFault, Outline, is_tag, nothing_passed, nothing_read, passed, rate_in, read_from, text_refusal, whole_token}
use Rattle.adlread.specs.Context.{context_of}
use Rattle.adlread.specs.Fault.{line_of, line_of_location, refusal}
use Rattle.adlread.specs.declared.fault.AdlFault.{AdlFault}
use Rattle.adlread.specs.declared.fault.AdlFault.TheVariants.{Text, Memory}
use Rattle.adlread.specs.declared.faults.Faults.{Faults}

-- ---- emptied lines

-- The line is an `(Entry)` line.
abbrev pub opens_entry : List ℕ → Bool
opens_entry line = unwrap_or (option_map (λ next. is_keyword (codes "Entry") next.0) (whole_token line)) false

-- The lines after an emptied `(Entry)` line: those of its entry are emptied too, up to the next `(Entry)` line or a
-- line that begins with `<`.
unfoldable pub without_entry : List (List ℕ) → List (List ℕ)
without_entry [] = []
without_entry (line ∷ lines) =
    if is_tag line || opens_entry line then line ∷ lines else [] ∷ without_entry lines

-- The lines after an emptied line.
abbrev pub behind_emptied : (is_entry : Bool) → List (List ℕ) → List (List ℕ)
behind_emptied is_entry lines = if is_entry then without_entry lines else lines

-- The lines after line `number`, with the given line emptied.
unfoldable pub without : (line : ℕ) → ℕ → List (List ℕ) → List (List ℕ)
without line number [] = []
without line number (text ∷ lines) =
    if number + 1 == line then [] ∷ behind_emptied (opens_entry text) lines
    else text ∷ without line (number + 1) lines

-- ---- faults of one line

-- A fault of a line, not of a section, the header or a rate.
abbrev pub is_of_a_line : TextFault → Bool
is_of_a_line fault.SectionMismatch = false
is_of_a_line fault.MissingSection = false
is_of_a_line fault.RepeatedSection = false
is_of_a_line fault.MissingSequence = false
is_of_a_line fault.WrongSequence = false
is_of_a_line fault.TooMany = false
is_of_a_line _ = true

-- A fault of a line, if the fault names neither an entry nor an index.
abbrev pub is_of_any_line : TextFault → Bool
is_of_any_line fault.Unsupported = true
is_of_any_line fault.BadNumber = true
is_of_any_line fault.Unplaced = true
is_of_any_line _ = false

-- Later lines can be judged without the faulty line.
abbrev pub is_of_its_own : LocatedFault → Bool
is_of_its_own f = at f.location where
  at : Location → Bool
  at (location.Line line) = is_of_any_line f.fault
  at (location.Entry line entry) = is_of_a_line f.fault
  at (location.Index line index) = is_of_a_line f.fault

-- Later lines can be judged without the line of this fault.
abbrev pub is_of_one_line : AdlFault → Bool
is_of_one_line (Text fault location stood) = is_of_its_own (record { fault = fault; location = location })
is_of_one_line Memory = false

-- ---- all faults

-- The frame rate of the lines without misplaced ones: the first one that a line of SEQUENCE gives, or 25.
unfoldable pub rate_beside : Outline → List (List ℕ) → ℕ
rate_beside o [] = 25
rate_beside o (text ∷ lines) = unwrap_or (rate_in o text) (rate_beside (unwrap_or (passed o text) o) lines)

-- The faults of the lines after line `number`, and whether these are all faults: the first one and, if later lines
-- can be judged without its line, the faults after emptying that line.
pub data AreFaults (rate : ℕ) (c : Context) (number : ℕ) : List (List ℕ) → List Refusal → (complete : Bool) → Type 0
  where
    Spelled :
        {lines : List (List ℕ)} (project : ListProject) → read_from rate c number lines ≡ Ok project
        → AreFaults rate c number lines [] true
    Last :
        {lines : List (List ℕ)} (f : LocatedFault) → read_from rate c number lines ≡ Err f → is_of_its_own f ≡ false
        → AreFaults rate c number lines (text_refusal f ∷ []) false
    More :
        {lines : List (List ℕ)} {others : List Refusal} {complete : Bool} (f : LocatedFault)
        → read_from rate c number lines ≡ Err f → is_of_its_own f ≡ true
        → AreFaults rate c number (without (line_of_location f.location) number lines) others complete
        → AreFaults rate c number lines (text_refusal f ∷ others) complete

-- The faults of a text after its first one, and whether these are all faults: the faults after emptying the first
-- faulty line, at the rate without misplaced lines. If later lines can't be judged, there are none.
abbrev pub AreFurther : List ℕ → (first : AdlFault) → List Refusal → (complete : Bool) → Type 0
AreFurther text first further complete = by_kind (is_of_one_line first) where
  by_kind : Bool → Type 0
  by_kind true = AreFaults (rate_beside nothing_passed (lines_of text)) nothing_read 0
      (without (line_of first) 0 (lines_of text)) further complete
  by_kind false = (further ≡ []) × (complete ≡ false)

-- ---- remaining faults

-- The lines after line `number`, with the first faulty line and the lines of a faulty entry emptied.
abbrev pub left : (first : ℕ) (is_in_entry : Bool) → ℕ → List (List ℕ) → List (List ℕ)
left first is_in_entry number lines = behind_emptied is_in_entry (without first number lines)

-- No faults remain, and all were returned unless the iteration was cut short.
abbrev pub Ends : Faults → List Refusal → (complete : Bool) → Type 0
Ends faults further complete = faults.is_cut_short ≡ false → (further ≡ []) × (complete ≡ true)

-- The faults that remain, and whether these are all faults.
abbrev pub IsLeft : Faults → List Refusal → (complete : Bool) → Type 0
IsLeft faults further complete = by_end faults.is_over where
  by_end : Bool → Type 0
  by_end true = Ends faults further complete
  by_end false = AreFaults (frames_per_second faults.rate) (context_of faults.draft) faults.lines.number
      (left faults.first faults.is_in_faulty_entry faults.lines.number faults.lines.lines) further complete

-- If a fault is returned, it is the first of these, and the others remain; if not, all of them remain.
abbrev pub IsFirstOf : Option AdlFault → List Refusal → (complete : Bool) → (new : Faults) → Type 0
IsFirstOf (Some fault) further complete new =
    (rest : List Refusal) × (further ≡ refusal fault ∷ rest) × IsLeft new rest complete
IsFirstOf None further complete new = IsLeft new further complete

-- If a fault is returned, it is the first of these, and the others remain; if not, the iteration is over.
abbrev pub IsNext : Option AdlFault → List Refusal → (complete : Bool) → (new : Faults) → Type 0
IsNext (Some fault) further complete new = IsFirstOf (Some fault) further complete new
IsNext None further complete new = Ends new further complete
