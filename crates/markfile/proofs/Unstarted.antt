-- Crash outcomes while the marks are being created.
use Rattle.std.proofs.Common.{◌≡◌, ◌∙◌, ℕ, ◌<◌, Bool, true, false, ◌==◌, Option, Some, None, Result, Ok, Err, List, [], ◌∷◌, ◌++◌, length, take, drop, get_or, replicate, sym, ap, subst, inl, inr, refl, arith}
use Rattle.std.specs.Prelude.{OnOk}
use Rattle.std.proofs.lemmas.List.{get_or-take}
use Rattle.std.proofs.lemmas.Bool.Decides.{nat_tests}
use Rattle.work_terms.specs.Disk.{ChangesOnly, Files, HasTornEnd, HasTornRange, IsBeside, IsDurable, IsPending, IsTorn, IsTornBehind, IsWritten, LeavesOnly, end_of}
use Rattle.devices.specs.declared.bench.Bench.{Ghosts}
use Rattle.markfile.proofs.Moments.{and_then, weaker}
use Rattle.markfile.specs.declared.run.RunId.{RunId}
use Rattle.markfile.specs.Format.{fresh_marks, head_of, marks_name}
use Rattle.markfile.specs.Started.{Holds, IsAfter, LeavesStart, LeavesUnstarted, NoneStarted, is_started}

some_same : (a b : List ℕ) → Some a ≡ Some b → a ≡ b
some_same a b e = cc

none_some : (a : List ℕ) → None ≡ Some a → ⊥
none_some a e = cc

apart : true ≡ false → ⊥
apart h = cc

-- ---- marks that are not started

pub short : (bytes : List ℕ) → length bytes < 44 → is_started (Some bytes) ≡ false
short bytes few = grind (arith, nat_tests)

pub shut : (bytes : List ℕ) → get_or bytes 0 0 ≡ 0 → is_started (Some bytes) ≡ false
shut bytes gate = grind (arith, nat_tests)

pub pending : (old new : Option (List ℕ)) → is_started old ≡ false → IsPending old new → is_started new ≡ false
pending old new none (inl same) = ap is_started same ∙ none
pending old new none (inr (inl gone)) = ap is_started gone
pending old new none (inr (inr empty)) = ap is_started empty

-- contents of an existing file after a torn append
torn_end : (at n : ℕ) (file : List ℕ) (old new : Option (List ℕ)) → old ≡ Some file → IsTornBehind at n old new
    → (bytes : List ℕ) × (new ≡ Some bytes) × HasTornEnd at n file bytes
torn_end at n file None new e t = absurd (none_some file e)
torn_end at n file (Some x) new e t = (t.0, t.1, subst (λ f. HasTornEnd at n f t.0) (some_same x file e) t.2)

-- a torn append of fewer than 44 bytes to an empty file does not start the marks
pub first_append : (stored old new : Option (List ℕ)) (n : ℕ) → stored ≡ Some [] → old ≡ Some [] → n < 44
    → IsTornBehind (end_of stored) n old new → is_started new ≡ false
first_append stored old new n is_empty was few t =
    let torn = torn_end (end_of stored) n [] old new was t in
    let at : end_of stored ≡ 0 = ap end_of is_empty in
    let long = torn.2.no_longer in
    ap is_started torn.1 ∙ short torn.0 (omega (arith, long, at, few))

-- a torn append after a shut gate does not start the marks
pub next_append : (stored old new : Option (List ℕ)) (n : ℕ) → stored ≡ Some (0 ∷ []) → old ≡ Some (0 ∷ [])
    → IsTornBehind (end_of stored) n old new → is_started new ≡ false
next_append stored old new n gate was t =
    let torn = torn_end (end_of stored) n (0 ∷ []) old new was t in
    let at : end_of stored ≡ 1 = ap end_of gate in
    let front : take 1 torn.0 ≡ take 1 (0 ∷ []) = subst (λ k. take k torn.0 ≡ take k (0 ∷ [])) at torn.2.before in
    ap is_started torn.1
    ∙ shut torn.0 (sym (get_or-take 1 torn.0 0 0 (omega arith)) ∙ ap (λ bytes. get_or bytes 0 0) front)

-- ---- other files

pub beside : (o : Files → Type 0) (step : Option (List ℕ) → Option (List ℕ) → Type 0) (c : Files) → IsAfter o step c
    → IsBeside o marks_name c
beside o step c (d, before, change) = (d, before, others)
  where
    others : ChangesOnly (marks_name ∷ []) d c
    others n away = change.others n (λ e. away (0, omega arith, sym e))

pub beside_again : (o mid : Files → Type 0) → ((c : Files) → mid c → IsBeside o marks_name c)
    → (c : Files) → IsBeside mid marks_name c → IsBeside o marks_name c
beside_again o mid back c (d, middle, change) = let first = back d middle in
    (first.0, first.1, λ n away. change n away ∙ first.2 n away)

-- ---- steps of a start

pub created : (o : Files → Type 0) → NoneStarted o → (c : Files) → IsAfter o IsPending c → LeavesUnstarted o c
created o none c after = record {
  beside = beside o IsPending c after;
  unstarted = pending (after.0 marks_name) (c marks_name) (none after.0 after.1) after.2.here;
}

-- a change of marks that are not started, by the contents that it applies to
pub added : (o mid : Files → Type 0) (step : Option (List ℕ) → Option (List ℕ) → Type 0) (marks : List ℕ)
    → ((c : Files) → mid c → LeavesUnstarted o c) → ((c : Files) → mid c → c marks_name ≡ Some marks)
    → ((old new : Option (List ℕ)) → old ≡ Some marks → step old new → is_started new ≡ false)
    → (c : Files) → IsAfter mid step c → LeavesUnstarted o c
added o mid step marks before lasts still c after = record {
  beside = beside_again o mid (λ d left. (before d left).beside) c (beside mid step c after);
  unstarted = still (after.0 marks_name) (c marks_name) (lasts after.0 after.1) after.2.here;
}

-- a shut gate is appended to newly created marks
module _ {B : Type 0} (bench : Ghosts B) (start made : B) (none : NoneStarted (bench.may_leave start))
    (making : (c : Files) → bench.may_leave made c → IsAfter (bench.may_leave start) IsPending c)
    (empty : bench.stored made marks_name ≡ Some [])
    (durable : IsDurable marks_name (bench.stored made) (bench.may_leave made)) where
  abbrev GateStep : Option (List ℕ) → Option (List ℕ) → Type 0
  GateStep = IsTornBehind (end_of (bench.stored made marks_name)) 1

  gate_left : (c : Files) → IsAfter (bench.may_leave made) GateStep c → LeavesUnstarted (bench.may_leave start) c
  gate_left =
      added (bench.may_leave start) (bench.may_leave made) GateStep []
      (λ x left. created (bench.may_leave start) none x (making x left)) (λ x left. durable x left ∙ empty)
      (λ old new was torn. first_append (bench.stored made marks_name) old new 1 empty was (omega arith) torn)

  pub gate_moments : (now : B)
      → LeavesOnly bench.moment bench.left_since start made (IsAfter (bench.may_leave start) IsPending)
      → LeavesOnly bench.moment bench.left_since made now (IsAfter (bench.may_leave made) GateStep)
      → LeavesOnly bench.moment bench.left_since start now (LeavesUnstarted (bench.may_leave start))
  gate_moments now first second =
      and_then bench.moment bench.left_since start made now (LeavesUnstarted (bench.may_leave start))
      (IsAfter (bench.may_leave made) GateStep) gate_left
      (weaker bench.moment bench.left_since start made (IsAfter (bench.may_leave start) IsPending)
      (LeavesUnstarted (bench.may_leave start)) (created (bench.may_leave start) none) first)
      second

  -- more bytes are appended after the gate
  pub gate_then : (mid : B) → ((c : Files) → bench.may_leave mid c → IsAfter (bench.may_leave made) GateStep c)
      → bench.stored mid marks_name ≡ Some (0 ∷ []) → IsDurable marks_name (bench.stored mid) (bench.may_leave mid)
      → (n : ℕ) → (c : Files)
      → IsAfter (bench.may_leave mid) (IsTornBehind (end_of (bench.stored mid marks_name)) n) c
      → LeavesUnstarted (bench.may_leave start) c
  gate_then mid adding shut lasts n =
      added (bench.may_leave start) (bench.may_leave mid) (IsTornBehind (end_of (bench.stored mid marks_name)) n)
      (0 ∷ []) (λ x left. gate_left x (adding x left)) (λ x left. lasts x left ∙ shut)
      (λ old new was torn. next_append (bench.stored mid marks_name) old new n shut was torn)

pub as_start : (run : RunId) (o : Files → Type 0) (c : Files) → LeavesUnstarted o c → LeavesStart run o c
as_start run o c left = record {
  beside = left.beside;
  fresh = λ started. absurd (apart (sym started ∙ left.unstarted));
}

-- a torn write of the gate byte
torn_gate : (rest bytes : List ℕ) → HasTornRange 0 1 (0 ∷ rest) bytes → is_started (Some bytes) ≡ true
    → bytes ≡ 1 ∷ rest
torn_gate rest [] torn started = absurd (apart (sym started))
torn_gate rest (gate ∷ behind) torn started = opened gate (go (gate == 1) refl started)
  where
    same : behind ≡ rest
    same = torn.after

    go : (b : Bool) → (gate == 1) ≡ b → is_started (Some (gate ∷ behind)) ≡ true → gate ≡ 1
    go b e on = grind (arith, nat_tests)

    opened : (g : ℕ) → g ≡ 1 → g ∷ behind ≡ 1 ∷ rest
    opened g e = cc

pub opened : (run : RunId) (rest : List ℕ) (o mid : Files → Type 0) → rest ≡ head_of run ++ replicate run.blocks 0
    → ((c : Files) → mid c → LeavesUnstarted o c) → ((c : Files) → mid c → c marks_name ≡ Some (0 ∷ rest))
    → (c : Files) → IsAfter mid (IsTorn 0 1) c → LeavesStart run o c
opened run rest o mid whole before lasts c after = record {
  beside = beside_again o mid (λ d left. (before d left).beside) c (beside mid (IsTorn 0 1) c after);
  fresh = go (after.0 marks_name) (c marks_name) (lasts after.0 after.1) after.2.here;
} where
  go : (old new : Option (List ℕ)) → old ≡ Some (0 ∷ rest) → IsTorn 0 1 old new → is_started new ≡ true
      → new ≡ Some (fresh_marks run)
  go None new e t started = absurd (none_some (0 ∷ rest) e)
  go (Some x) new e t started =
      let torn = subst (λ f. HasTornRange 0 1 f t.0) (some_same x (0 ∷ rest) e) t.2 in
      let is = torn_gate rest t.0 torn (sym (ap is_started t.1) ∙ started) in
      t.1 ∙ ap (λ bytes. Some bytes) (is ∙ ap (λ bytes. 1 ∷ bytes) whole)

-- the gate is opened
pub has_opened : (rest : List ℕ) (old new : Option (List ℕ)) → old ≡ Some (0 ∷ rest) → IsWritten 0 (1 ∷ []) old new
    → new ≡ Some (1 ∷ rest)
has_opened rest old new was change =
    change.written
    ∙ ap (λ (file : List ℕ). Some (1 ∷ drop 1 file)) (some_same change.file (0 ∷ rest) (sym change.there ∙ was))

-- ---- synced marks

-- marks that are read and durable are held
pub holds : {B X E P : Type 0} (bench : Ghosts B) (marks : List ℕ) (now : B) (result : Result X E)
    → (P → bench.stored now marks_name ≡ Some marks) → OnOk result P
    → OnOk result (IsDurable marks_name (bench.stored now) (bench.may_leave now)) → OnOk result (Holds bench marks now)
holds bench marks now (Ok done) reads change durable = record {
  reads = reads change;
  lasts = λ c left. durable c left ∙ reads change;
}
holds bench marks now (Err fault) reads change durable = tt
