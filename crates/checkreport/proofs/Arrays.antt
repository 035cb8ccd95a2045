-- Parts of an array or an object in sequence.
use Rattle.std.proofs.Common.{◌≡◌, ◌++◌, [], ◌∷◌, Bool, List, Option, ℕ, length, subst, sym}
use Rattle.console.specs.Printing.{Prints}
use Rattle.console.specs.PrintingLaws.{prints_more}
use Rattle.console.specs.declared.console.Console.{Ghosts}
use Rattle.serde_json.specs.Data.{Data}
use Rattle.checkreport.specs.Printed.{printed_text}
use Rattle.opening.specs.declared.fault.Fault.{Fault}
use Rattle.checkreport.specs.Parts.{after_commas, fault_text, refused_end, refused_front}
use Rattle.checkreport.specs.Report.{ExplainedFault, faults_of}
use Rattle.checkreport.specs.Reported.{PrintsRefused}
use Rattle.checkreport.proofs.Parts.{empty, refused_text}

module _ {O X : Type 0} (contents : O → Option (List ℕ)) (failures : O → ℕ) (whole : List X → List ℕ) (xs : List X)
  where
    -- a nonempty list: the first element, the others and the end
    pub some_printed : (first : X) (rest : List X) {old one two new : O} {front more end : List ℕ} → xs ≡ first ∷ rest
        → front ++ (more ++ end) ≡ whole (first ∷ rest) → Prints contents failures old one front
        → Prints contents failures one two more → Prints contents failures two new end
        → Prints contents failures old new (whole xs)
    some_printed first rest {old = old} {new = new} are is one_printed more_printed ended =
        subst (λ (xs : List X). Prints contents failures old new (whole xs)) (sym are)
        (subst (Prints contents failures old new) is
        (prints_more contents failures one_printed (prints_more contents failures more_printed ended)))

    -- an empty list: only the end
    pub none_printed : {old new : O} → length xs ≡ 0 → Prints contents failures old new (whole [])
        → Prints contents failures old new (whole xs)
    none_printed {old = old} {new = new} none =
        subst (λ (xs : List X). Prints contents failures old new (whole xs)) (sym (empty xs none))

-- the first fault, the further ones and the end of the report
pub refused_printed : {O : Type 0} (out : Ghosts O) (first : Fault) (AreThese : List Fault → Bool → Type 0)
    (explained : Data) (further : List ExplainedFault) (media_error : Option (List ℕ)) (are_all : Bool)
    {old one two new : O} → AreThese (faults_of further) are_all
    → Prints out.contents out.failures old one (refused_front (record { fault = first; explained = explained }) [])
    → Prints out.contents out.failures one two (after_commas fault_text further)
    → Prints out.contents out.failures two new (refused_end media_error are_all)
    → PrintsRefused out old new first AreThese
refused_printed out first AreThese explained further media_error are_all {old = old} {new = new} these front more end =
    record {
      explained = explained;
      further = further;
      media_error = media_error;
      are_all = are_all;
      these = these;
      printed = subst (Prints out.contents out.failures old new)
          (refused_text (record { fault = first; explained = explained }) further media_error are_all)
          (prints_more out.contents out.failures front (prints_more out.contents out.failures more end));
    }

-- a fault after a text
pub fault_printed : {O : Type 0} (out : Ghosts O) (text : ExplainedFault → List ℕ) (fault : Fault) (explained value : Data)
    {before : List ℕ} {old mid new : O} → before ++ printed_text value ≡ text (record { fault = fault; explained = explained })
    → Prints out.contents out.failures old mid before → Prints out.contents out.failures mid new (printed_text value)
    → (told : Data) × Prints out.contents out.failures old new (text (record { fault = fault; explained = told }))
fault_printed out text fault explained value {old = old} {new = new} is front own = (
  explained,
  subst (Prints out.contents out.failures old new) is (prints_more out.contents out.failures front own),
)
