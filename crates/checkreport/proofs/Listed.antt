-- The further faults that are listed, and whether they are all.
use Rattle.std.proofs.Common.{◌≡◌, ◌≤◌, ◌∙◌, Bool, IsTrue, true, false, List, [], ◌∷◌, ◌++◌, ◌||◌, ℕ, ap, append_assoc, drop, length, map, not, refl, subst, sym, take, take_all}
use Rattle.std.proofs.lemmas.List.{append-nil, map_push, take-append-drop}
use Rattle.std.proofs.lemmas.List.Folds.{list_any-append}
use Rattle.devices.specs.declared.source.Shelf as source
use Rattle.work_terms.specs.Disk.{Files}
use Rattle.work_terms.specs.Refusals.{Refusal, is_device}
use Rattle.opening.specs.Faults.{refusal_of}
use Rattle.opening.specs.Further.{IsCounted, names_device}
use Rattle.opening.specs.declared.fault.Fault.{Fault}
use Rattle.opening.specs.declared.fault.Fault.TheVariants as fault
use Rattle.adlread.specs.declared.fault.AdlFault.{AdlFault}
use Rattle.console.specs.declared.console.Console as console
use Rattle.checkreport.specs.Report.{ExplainedFault, faults_of}
use Rattle.checkreport.specs.Reported.{AreFound, AreListed, AreOfList, AreOfSources, AreOfText, PrintsRefused}

-- a prefix
pub listed_so_far : {X : Type 0} (k : ℕ) (all listed : List X) → listed ≡ take k all → AreListed all true listed false
listed_so_far k all listed is = (drop k all, ap (λ front. front ++ drop k all) is ∙ take-append-drop k all)

-- values listed from a prefix
pub listed_of_first : {X : Type 0} (most : ℕ) (all listed : List X) (are_all : Bool)
    → AreListed (take most all) true listed are_all → AreListed all true listed false
listed_of_first most all listed true is = listed_so_far most all listed is.0
listed_of_first most all listed false is = (
  is.0 ++ drop most all,
  sym (append_assoc listed is.0 (drop most all)) ∙ ap (λ front. front ++ drop most all) is.1
      ∙ take-append-drop most all,
)

-- values listed from a prefix that is the whole list
pub listed_of_all : {X : Type 0} (most : ℕ) (all listed : List X) (are_all : Bool) → length all ≤ most
    → AreListed (take most all) true listed are_all → AreListed all true listed are_all
listed_of_all {X} most all listed are_all few =
    subst (λ (xs : List X). AreListed xs true listed are_all) (take_all most all few)

-- one more listed fault
pub listed_more : (printed : List ExplainedFault) (one : ExplainedFault) (rest others all : List Refusal)
    → map refusal_of (faults_of printed) ++ rest ≡ all → rest ≡ refusal_of one.fault ∷ others
    → map refusal_of (faults_of (printed ++ one ∷ [])) ++ others ≡ all
listed_more printed one rest others all so_far next =
    ap (λ (front : List Refusal). front ++ others)
    (ap (map refusal_of) (map_push (λ (each : ExplainedFault). each.fault) printed one)
    ∙ map_push refusal_of (faults_of printed) one.fault)
    ∙ append_assoc (map refusal_of (faults_of printed)) (refusal_of one.fault ∷ []) others
    ∙ ap (λ (left : List Refusal). map refusal_of (faults_of printed) ++ left) (sym next) ∙ so_far

-- the end of the faults, or an early stop
pub listed_to_end : {X : Type 0} (all listed rest : List X) (complete is_cut : Bool) → listed ++ rest ≡ all
    → (is_cut ≡ false → (rest ≡ []) × (complete ≡ true)) → AreListed all complete listed (not is_cut)
listed_to_end all listed rest complete true is ends = (rest, is)
listed_to_end all listed rest complete false is ends =
    let end = ends refl in (sym (append-nil listed) ∙ ap (λ more. listed ++ more) (sym end.0) ∙ is, end.1)

-- a list of faults on honest sources
pub of_honest : (honest : Bool) (list : List ℕ) (files : Files) (first : Fault) (listed : List Fault) (are_all : Bool)
    → IsTrue honest → AreOfList honest list files first listed are_all → AreOfList true list files first listed are_all
of_honest honest list files first listed are_all is =
    subst (λ (b : Bool). AreOfList b list files first listed are_all) is

-- a device fault among the listed faults is one of all faults
pub listed_devices : (all listed : List Fault) (are_all : Bool) → AreListed all true listed are_all
    → names_device listed ≡ true → names_device all ≡ true
listed_devices all listed true is devices = ap names_device (sym is.0) ∙ devices
listed_devices all listed false is devices =
    ap names_device (sym is.1) ∙ list_any-append (λ fault. is_device (refusal_of fault).number) listed is.0
    ∙ ap (λ b. b || names_device is.0) devices

module _ {S : Type 0} (shelf : source.Ghosts S) (before after : S) (list : List ℕ) where
  -- found in the sources
  found_in_sources : (first : Fault) → ((of : AdlFault) → first ≡ fault.List of → ⊥)
      → (listed : List Fault) (are_all : Bool)
      → (IsTrue (shelf.honest before) → AreOfSources list (shelf.stored before) first listed are_all)
      → IsCounted shelf before after listed → AreFound shelf before after list first listed are_all
  found_in_sources (fault.List of) other listed are_all these counted = absurd (other of refl)
  found_in_sources (fault.SameName index) other listed are_all these counted =
      record { of_list = these; counted = counted }
  found_in_sources (fault.Media index name of) other listed are_all these counted =
      record { of_list = these; counted = counted }
  found_in_sources (fault.Entry of) other listed are_all these counted =
      record { of_list = these; counted = counted }

  pub report_of_sources : {O : Type 0} (out : console.Ghosts O) (old new : O) (first : Fault)
      → ((of : AdlFault) → first ≡ fault.List of → ⊥)
      → PrintsRefused out old new first (λ listed are_all.
      (IsTrue (shelf.honest before) → AreOfSources list (shelf.stored before) first listed are_all)
      × IsCounted shelf before after listed)
      → PrintsRefused out old new first (AreFound shelf before after list first)
  report_of_sources out old new first other report = record {
    explained = report.explained;
    further = report.further;
    media_error = report.media_error;
    are_all = report.are_all;
    these = found_in_sources first other (faults_of report.further) report.are_all report.these.0 report.these.1;
    printed = report.printed;
  }

  pub report_of_text : {O : Type 0} (out : console.Ghosts O) (old new : O) (first : Fault) (of : AdlFault)
      → first ≡ fault.List of → PrintsRefused out old new first (AreOfText list of)
      → PrintsRefused out old new first (AreFound shelf before after list first)
  report_of_text out old new first of is report = record {
    explained = report.explained;
    further = report.further;
    media_error = report.media_error;
    are_all = report.are_all;
    these = found_in_text is report.these;
    printed = report.printed;
  }
    where
      found_in_text : {first : Fault} {listed : List Fault} {are_all : Bool} → first ≡ fault.List of
          → AreOfText list of listed are_all → AreFound shelf before after list first listed are_all
      found_in_text is these = rw is (record { of_list = these; counted = tt })
