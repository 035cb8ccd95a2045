-- Calls replayed from the oldest to the newest, as performed and as left by a crash.
use Rattle.std.proofs.Common.{◌≡◌, ◌∙◌, ℕ, true, false, if◌then◌else◌, Option, List, [], ◌∷◌, ◌++◌, length, map, sym, ap, subst, inl, inr, arith}
use Rattle.std.specs.Str.{bytes_eq}
use Rattle.std.proofs.lemmas.Bool.{cases_Bool}
use Rattle.std.proofs.lemmas.List.{append-nil, append_assoc, map-append}
use Rattle.std.proofs.lemmas.Slice.Eq.{bytes_eq-Decides}
use Rattle.work_terms.specs.Disk.{Files, Changes}
use Rattle.shelf.specs.declared.memory.call.Call.{Call}
use Rattle.shelf.specs.Files.{IsMade}
use Rattle.shelf.specs.Crashes.{crash_held}
use Rattle.shelf.specs.History.{History, MayHold, MayLeave, Note, note_of, history_by, read_of, done, replayed, left_of, crashed}

-- the remaining calls, with the files after all older calls
pub record IsReplay (kept fill : ℕ) (start : Files) (all notes : List Note) (read left : Files) : Type 0 where
  pub older : List Note
  pub split : all ≡ notes ++ older
  pub reads : (name : List ℕ) → read name ≡ replayed start older name
  pub leaves : (name : List ℕ) → left name ≡ crashed kept fill start older name

-- files after one of them was changed
updated : (make : List ℕ → Option (List ℕ) → Option (List ℕ)) (name : List ℕ) (old new base : Files)
    → Changes (IsMade (make name)) name old new → ((n : List ℕ) → old n ≡ base n) → (n : List ℕ)
    → new n ≡ (if bytes_eq n name then make n (base n) else base n)
updated make name old new base changes same n = elim (cases_Bool (bytes_eq n name)) [
  | inl is ↦ rw is (subst (λ (m : List ℕ). new m ≡ make m (base m)) (sym ((bytes_eq-Decides n name).0 is))
      (changes.here ∙ ap (make name) (same name)))
  | inr isnt ↦ rw isnt (changes.others n (λ equal. differ equal isnt) ∙ same n)
]
  where
    differ : n ≡ name → bytes_eq n name ≡ false → ⊥
    differ equal isnt = let is : bytes_eq n name ≡ true = (bytes_eq-Decides n name).1 equal in cc

module _ (kept fill : ℕ) (start : Files) (all : List Note) where
  pub begins : (read left : Files) → ((n : List ℕ) → read n ≡ start n) → ((n : List ℕ) → left n ≡ start n)
      → IsReplay kept fill start all all read left
  begins read left reads leaves = record { older = []; split = sym (append-nil all); reads = reads; leaves = leaves }

  -- one step: the oldest of the remaining calls is replayed
  pub goes_on : (call : Call) (items rest : List Call) (read left read_next left_next : Files)
      → items ≡ rest ++ call ∷ [] → IsReplay kept fill start all (map note_of items) read left
      → Changes (IsMade (left_of kept fill (note_of call) (read (note_of call).name))) (note_of call).name left left_next
      → Changes (IsMade (done (note_of call))) (note_of call).name read read_next
      → IsReplay kept fill start all (map note_of rest) read_next left_next
  goes_on call items rest read left read_next left_next is so_far loses does =
      let note : Note = note_of call in
      let cut : map note_of items ≡ map note_of rest ++ note ∷ [] =
      ap (map note_of) is ∙ map-append note_of rest (call ∷ []) in record {
        older = note ∷ so_far.older;
        split = so_far.split ∙ ap (λ (notes : List Note). notes ++ so_far.older) cut
            ∙ append_assoc (map note_of rest) (note ∷ []) so_far.older;
        reads = updated (λ _. done note) note.name read read_next (replayed start so_far.older) does so_far.reads;
        leaves = updated (λ n. left_of kept fill note (replayed start so_far.older n)) note.name left left_next
            (crashed kept fill start so_far.older)
            (subst (λ (file : Option (List ℕ)). Changes (IsMade (left_of kept fill note file)) note.name left left_next)
            (so_far.reads note.name) loses) so_far.leaves;
      }

  pub ends : (items : List Call) (read left : Files) → length items ≡ 0
      → IsReplay kept fill start all (map note_of items) read left
      → (n : List ℕ) → left n ≡ crashed kept fill start all n
  ends [] read left none so_far n =
      subst (λ (notes : List Note). left n ≡ crashed kept fill start notes n) (sym so_far.split) (so_far.leaves n)
  ends (call ∷ items) read left none so_far n = absurd (omega (arith, none))

-- a bench with no calls
module _ (start : Files) (items : List Call) (none : items ≡ []) where
  leaves_read : (name : List ℕ) → read_of (history_by start items) name ≡ start name
  leaves_read name = ap (λ (calls : List Call). read_of (history_by start calls) name) none

  pub leaves_settled : (c : Files) → MayLeave (history_by start items) c → (name : List ℕ)
      → c name ≡ read_of (history_by start items) name
  leaves_settled c left name =
      subst (λ (calls : List Call). MayHold start (map note_of calls) name (c name)) none (left name)
      ∙ sym (leaves_read name)

  module _ (kept fill : ℕ) (old : History)
      (same : (name : List ℕ) → start name ≡ crashed kept fill old.start old.notes name) where
    pub leaves_start : (name : List ℕ) → read_of (history_by start items) name
        ≡ crashed kept fill old.start old.notes name
    leaves_start name = leaves_read name ∙ same name

    pub leaves_outcome : MayLeave old (read_of (history_by start items))
    leaves_outcome name = subst (MayHold old.start old.notes name) (sym (leaves_start name))
        (crash_held kept fill old.start old.notes name)
