-- The remaining faults of `Faults` after a line that is read, and after a faulty line.
use Rattle.std.proofs.Common.{◌≡◌, ℕ, ◌+◌, Bool, true, false, List, [], ◌∷◌, Option, None, Some, Result, Ok, Err, refl, ap, sym, subst, ◌∙◌}
use Rattle.std.specs.Prelude.{◌||◌, IfSome, is_some, max, not, option_map}
use Rattle.sampletime.specs.FrameRate.{frames_per_second}
use Rattle.work_terms.specs.Refusals.{Refusal}
use Rattle.list_terms.specs.Lines.{LinesLeft, lines_of}
use Rattle.list_terms.specs.Project.{ListProject}
use Rattle.adltoken.specs.declared.tokens.Span.{Span}
use Rattle.list_terms.specs.declared.Location.TheVariants as location
use Rattle.list_terms.specs.declared.TextFault.TheVariants.{SectionMismatch}
use Rattle.list_terms.specs.Text.{Context, LocatedFault, at_line, finished, is_behind, nothing_passed, nothing_read, read_from, text_refusal, with_line}
use Rattle.adlread.specs.Context.{context_of}
use Rattle.adlread.specs.Fault.{Reads, line_of, refusal, refused}
use Rattle.adlread.specs.declared.fault.AdlFault.{AdlFault}
use Rattle.adlread.specs.declared.fault.AdlFault.TheVariants.{Text, Memory}
use Rattle.adlread.specs.declared.faults.Faults.{Faults}
use Rattle.adlread.specs.Further.{AreFaults, AreFurther, IsFirstOf, IsLeft, IsNext, is_of_one_line, left, opens_entry, rate_beside, without}
use Rattle.adlread.proofs.FurtherLaws.{AreFaults-cut, AreFaults-emptied, AreFaults-end, AreFaults-exist, AreFaults-none, AreFaults-nothing, AreFaults-on, AreFaults-unfinished}

-- After the iteration was cut short, anything may remain.
pub cut-left :
    (f : Faults) (further : List Refusal) (complete : Bool) → f.is_over ≡ true → f.is_cut_short ≡ true
    → IsLeft f further complete
cut-left f further complete over cut = rw over (λ uncut. absurd (let no : true ≡ false = sym cut ∙ uncut in cc))

-- The remaining faults while the iteration isn't over.
abbrev pub AreLeft : Faults → List Refusal → Bool → Type 0
AreLeft f further complete =
    AreFaults (frames_per_second f.rate) (context_of f.draft) f.lines.number
    (left f.first f.is_in_faulty_entry f.lines.number f.lines.lines) further complete

pub left-are :
    (f : Faults) (further : List Refusal) (complete : Bool) → f.is_over ≡ false → IsLeft f further complete
    → AreLeft f further complete
left-are f further complete on is = rw on at is

pub are-left :
    (f : Faults) (further : List Refusal) (complete : Bool) → f.is_over ≡ false → AreLeft f further complete
    → IsLeft f further complete
are-left f further complete on are = rw on are

-- The first of the remaining faults is the next one.
pub first-next :
    (told : Option AdlFault) (new : Faults) (further : List Refusal) (complete : Bool)
    → IsFirstOf told further complete new → (is_some told || new.is_over) ≡ true → IsNext told further complete new
first-next None new further complete is over = rw over at is
first-next (Some fault) new further complete is over = is

-- If no fault is returned, all of them remain.
pub none-left :
    (told : Option AdlFault) (new : Faults) (further : List Refusal) (complete : Bool) → is_some told ≡ false
    → IsFirstOf told further complete new → IsLeft new further complete
none-left None new further complete none is = is
none-left (Some fault) new further complete none is = absurd (cc)

-- Taking one more line.
pub step-left :
    (f : Faults) (lines : LinesLeft) (line : List ℕ) (further : List Refusal) (complete : Bool)
    → f.lines.lines ≡ line ∷ lines.lines → f.is_over ≡ false → IsLeft f further complete
    → AreFaults (frames_per_second f.rate) (context_of f.draft) f.lines.number
    (left f.first f.is_in_faulty_entry f.lines.number (line ∷ lines.lines)) further complete
step-left f lines line further complete same on is =
    subst (λ ls. AreFaults (frames_per_second f.rate) (context_of f.draft) f.lines.number
    (left f.first f.is_in_faulty_entry f.lines.number ls) further complete) same
    (left-are f further complete on is)

-- ---- after a faulty line

-- A fault that stops the iteration.
pub passed-cut :
    (told : Option AdlFault) (fault : AdlFault) (new : Faults) (rate : ℕ) (c : Context) (n m : ℕ) (line : List ℕ)
    (lines : List (List ℕ)) (further : List Refusal) (complete : Bool) → n + 1 ≡ m
    → IfSome told (λ t. (t ≡ fault) × (fault ≡ Memory → ⊥)) → is_of_one_line fault ≡ false
    → Reads {X = Unit {0}} (λ _. c) (Err fault) (with_line rate c m line)
    → AreFaults rate c n (line ∷ lines) further complete → new.is_over ≡ true → new.is_cut_short ≡ true
    → IsFirstOf told further complete new
passed-cut None fault new rate c n m line lines further complete at is other reads are over cut =
    cut-left new further complete over cut
passed-cut (Some t) Memory new rate c n m line lines further complete at is other reads are over cut =
    absurd (is.1 refl)
passed-cut (Some t) (Text f location stood) new rate c n m line lines further complete at is other reads are over cut = (
  [],
  AreFaults-cut rate c n m line lines (record { fault = f; location = location }) at reads other are
      ∙ ap (λ x. refusal x ∷ []) (sym is.0),
  cut-left new [] complete over cut,
)

-- A fault that doesn't stop the iteration.
pub passed-alone :
    (f : Faults) (fault : AdlFault) (n m : ℕ) (line : List ℕ) (further : List Refusal) (complete : Bool) → n + 1 ≡ m
    → is_of_one_line fault ≡ true
    → Reads {X = Unit {0}} (λ _. context_of f.draft) (Err fault)
    (with_line (frames_per_second f.rate) (context_of f.draft) m line)
    → AreFaults (frames_per_second f.rate) (context_of f.draft) n
    (line ∷ left f.first f.is_in_faulty_entry m f.lines.lines) further complete
    → (others : List Refusal) × (further ≡ refusal fault ∷ others)
    × ((next : Context) → with_line (frames_per_second f.rate) (context_of f.draft) m [] ≡ Ok next
    → AreFaults (frames_per_second f.rate) next m
    (left f.first (f.is_in_faulty_entry || opens_entry line) m f.lines.lines) others complete)
passed-alone f Memory n m line further complete at own reads are = absurd (let no : false ≡ true = own in cc)
passed-alone f (Text fault location stood) n m line further complete at own reads are =
    AreFaults-emptied (frames_per_second f.rate) (context_of f.draft) n m f.first f.is_in_faulty_entry line
    f.lines.lines (record { fault = fault; location = location }) at reads own are

pub emptied-left :
    (new : Faults) (further : List Refusal) (complete : Bool) (m : ℕ) (b opens : Bool) (line : List ℕ)
    → new.is_over ≡ false → m ≡ new.lines.number → new.is_in_faulty_entry ≡ (b || opens)
    → opens ≡ opens_entry line
    → AreFaults (frames_per_second new.rate) (context_of new.draft) m
    (left new.first (b || opens_entry line) m new.lines.lines) further complete
    → IsLeft new further complete
emptied-left new further complete m b opens line on number in_entry is are =
    let same : (b || opens_entry line) ≡ new.is_in_faulty_entry = ap (λ o. b || o) (sym is) ∙ sym in_entry in
    are-left new further complete on
    (subst (λ i. AreFaults (frames_per_second new.rate) (context_of new.draft) i
    (left new.first new.is_in_faulty_entry i new.lines.lines) further complete) number
    (subst (λ o. AreFaults (frames_per_second new.rate) (context_of new.draft) m
    (left new.first o m new.lines.lines) further complete) same are))

-- ---- after a line that is read

pub read-left :
    (new : Faults) (c : Context) (n m : ℕ) (line : List ℕ) {lines : List (List ℕ)} (further : List Refusal)
    (complete : Bool) → new.is_over ≡ false → n + 1 ≡ m → m ≡ new.lines.number
    → with_line (frames_per_second new.rate) c m line ≡ Ok (context_of new.draft)
    → is_behind new.draft.stage ≡ false
    → lines ≡ line ∷ left new.first new.is_in_faulty_entry m new.lines.lines
    → AreFaults (frames_per_second new.rate) c n lines further complete → IsLeft new further complete
read-left new c n m line further complete on at number read before same are =
    are-left new further complete on
    (subst (λ i. AreFaults (frames_per_second new.rate) (context_of new.draft) i
    (left new.first new.is_in_faulty_entry i new.lines.lines) further complete) number
    (AreFaults-on (frames_per_second new.rate) c (context_of new.draft) n m line
    (left new.first new.is_in_faulty_entry m new.lines.lines) at read before same are))

-- The end of the list.
pub end-left :
    (missing : Option AdlFault) (new : Faults) (rate : ℕ) (c next : Context) (n m : ℕ) (line : List ℕ)
    {lines : List (List ℕ)} (rest : List (List ℕ)) (further : List Refusal) (complete : Bool)
    → new.is_over ≡ true → new.is_cut_short ≡ is_some missing → n + 1 ≡ m → with_line rate c m line ≡ Ok next
    → is_behind next.stage ≡ true → option_map refusal missing ≡ refused (finished rate next m)
    → lines ≡ line ∷ rest → AreFaults rate c n lines further complete → IsFirstOf missing further complete new
end-left missing new rate c next n m line {lines} rest further complete over cut at read behind exact same are =
    by_said missing cut (finished rate next m) refl exact where
      ends : read_from rate c n lines ≡ finished rate next m
      ends = AreFaults-end rate c next n m line rest at read behind same

      by_said :
          (missing : Option AdlFault) → new.is_cut_short ≡ is_some missing
          → (said : Result ListProject LocatedFault) → finished rate next m ≡ said
          → option_map refusal missing ≡ refused said → IsFirstOf missing further complete new
      by_said None cut (Ok p) e exact =
          rw over (λ _. AreFaults-none rate p are (ends ∙ e))
      by_said None cut (Err f) e exact = absurd (cc)
      by_said (Some fault) cut (Ok p) e exact = absurd (cc)
      by_said (Some fault) cut (Err f) e exact =
          let same : refusal fault ≡ text_refusal f = cc in (
            [],
            (AreFaults-unfinished rate c next n m f are ends e).0 ∙ ap (λ r. r ∷ []) (sym same),
            cut-left new [] complete over cut,
          )

-- No line remains.
pub nothing-left :
    (f new : Faults) (further : List Refusal) (complete : Bool) (fault : AdlFault) (m : ℕ) (stood : Span)
    → f.lines.lines ≡ [] → f.is_over ≡ false → IsLeft f further complete
    → fault ≡ Text SectionMismatch (location.Line m) stood → m ≡ max f.lines.number 1 → new.is_over ≡ true
    → new.is_cut_short ≡ true
    → (rest : List Refusal) × (further ≡ refusal fault ∷ rest) × IsLeft new rest complete
nothing-left f new further complete fault m stood none on is at number over cut = (
  [],
  AreFaults-nothing (frames_per_second f.rate) (context_of f.draft) f.lines.number f.is_in_faulty_entry f.first none
      (left-are f further complete on is)
      ∙ ap (λ i. text_refusal (at_line i SectionMismatch) ∷ []) (sym number)
      ∙ ap (λ x. refusal x ∷ []) (sym at),
  cut-left new [] complete over cut,
)

-- ---- after the first fault

-- The faults that remain at the end, or in these lines.
abbrev StateLeft : (over cut : Bool) (rate : ℕ) (c : Context) (first : ℕ) (lines : LinesLeft) → List Refusal → Bool → Type 0
StateLeft over cut rate c first lines further complete = by_end over where
  by_end : Bool → Type 0
  by_end true = cut ≡ false → (further ≡ []) × (complete ≡ true)
  by_end false = AreFaults rate c lines.number (left first false lines.number lines.lines) further complete

pub after-left :
    (text : List ℕ) (first : AdlFault) (own : Bool) (rate : ℕ) (c : Context) (line : ℕ) (lines : LinesLeft)
    → own ≡ is_of_one_line first → line ≡ line_of first → c ≡ nothing_read
    → lines ≡ record { number = 0; lines = lines_of text }
    → (own ≡ true → rate ≡ rate_beside nothing_passed (lines_of text))
    → (further : List Refusal) × (complete : Bool) × AreFurther text first further complete
    × StateLeft (not own) (not own) rate c line lines further complete
after-left text first false rate c line lines own at draft same beside =
    ([], false, rw (← own) (refl, refl), λ uncut. absurd (cc))
after-left text first true rate c line lines own at draft same beside =
    let r = rate_beside nothing_passed (lines_of text) in
    let (further, complete, are) =
    AreFaults-exist r (without (line_of first) 0 (lines_of text)) false nothing_read 0 in
    (further, complete, rw (← own) are, rw (at, draft, same, beside refl) are)
