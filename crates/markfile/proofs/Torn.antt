-- Marks while they are being set and after they are set.
use Rattle.std.proofs.Common.{◌≡◌, ◌∙◌, ℕ, ◌+◌, ◌-◌, ◌<◌, ◌≤◌, Bool, ◌==◌, Option, Some, None, List, ◌++◌, length, take, drop, get_or, replicate, sym, ap, subst, inl, inr, arith}
use Rattle.std.proofs.lemmas.Bool.{cases_lt}
use Rattle.std.proofs.lemmas.List.{append_assoc, drop_at, ext_get_or, get_or-append_right, get_or-drop, get_or-replicate, get_or-take, get_or_append_left, length-append, length-drop, length-replicate, length-take, length-take-le, take_at}
use Rattle.work_terms.specs.Disk.{Files, HasTornRange, IsTorn, IsWritten, LeavesOnly}
use Rattle.devices.specs.declared.bench.Bench.{Ghosts}
use Rattle.markfile.specs.declared.run.RunId.{RunId}
use Rattle.markfile.specs.Format.{AreMarksOf, is_marked, marks_name}
use Rattle.markfile.specs.Started.{AreSet, IsAfter, Lasts, LeavesMarks}
use Rattle.markfile.proofs.Moments.{weaker}
use Rattle.markfile.proofs.Unstarted.{beside}

some_same : (a b : List ℕ) → Some a ≡ Some b → a ≡ b
some_same a b e = cc

none_some : (a : List ℕ) → None ≡ Some a → ⊥
none_some a e = cc

-- bytes outside a torn range are unchanged
torn_at : (at n : ℕ) (old new : List ℕ) → HasTornRange at n old new → (i : ℕ) → (at ≤ i → i < at + n → ⊥)
    → get_or new i 0 ≡ get_or old i 0
torn_at at n old new t i out = elim (cases_lt i at) [
  | inl before ↦ sym (get_or-take at new i 0 before) ∙ ap (λ x. get_or x i 0) t.before ∙ get_or-take at old i 0 before
  | inr from ↦ elim (cases_lt i (at + n)) [
    | inl to ↦ absurd (out from to)
    | inr behind ↦ let e : at + n + (i - (at + n)) ≡ i = omega arith in
        ap (λ k. get_or new k 0) (sym e) ∙ sym (get_or-drop (at + n) new (i - (at + n)) 0)
        ∙ ap (λ x. get_or x (i - (at + n)) 0) t.after ∙ get_or-drop (at + n) old (i - (at + n)) 0
        ∙ ap (λ k. get_or old k 0) e
  ]
]

-- a byte that was written
written_at : (file bytes : List ℕ) (at i : ℕ) → at + length bytes ≤ length file → at ≤ i → i < at + length bytes
    → get_or (take at file ++ (bytes ++ drop (at + length bytes) file)) i 0 ≡ get_or bytes (i - at) 0
written_at file bytes at i room from to =
    let front : length (take at file) ≡ at = length-take-le at file (omega (arith, room)) in
    get_or-append_right (take at file) (bytes ++ drop (at + length bytes) file) at i 0 front from
    ∙ get_or_append_left bytes (drop (at + length bytes) file) 0 (i - at) (omega (arith, from, to))

-- the marks after these are set
abbrev pub with_set : ℕ → ℕ → List ℕ → List ℕ
with_set from behind marks = take (44 + from) marks ++ (replicate (behind - from) 1 ++ drop (44 + behind) marks)

module _ (run : RunId) (from behind : ℕ) (order : from ≤ behind) (marks : List ℕ) (ours : AreMarksOf run marks) where
  -- the marks are equal outside the range being set
  pub record AreBeside (now : List ℕ) : Type 0 where
    pub same : (i : ℕ) → (44 + from ≤ i → i < 44 + from + (behind - from) → ⊥) → get_or now i 0 ≡ get_or marks i 0
    pub of_run : AreMarksOf run now

  beside_by : (now : List ℕ) → HasTornRange (44 + from) (behind - from) marks now → AreBeside now
  beside_by now t = record {
    same = same;
    of_run = record {
      front = ext_get_or 0 (take 44 now) (take 44 marks) (omega (arith, t.same_length, length-take {A = ℕ}))
          (λ i lt. let few : i < 44 = omega (arith, lt, length-take {A = ℕ}) in get_or-take 44 now i 0 few
          ∙ same i (λ above. absurd (omega (arith, above, few))) ∙ sym (get_or-take 44 marks i 0 few)) ∙ ours.front;
      size = t.same_length ∙ ours.size;
    };
  } where
    same : (i : ℕ) → (44 + from ≤ i → i < 44 + from + (behind - from) → ⊥) → get_or now i 0 ≡ get_or marks i 0
    same = torn_at (44 + from) (behind - from) marks now t

  others : (now : List ℕ) → AreBeside now → (k : ℕ) → (from ≤ k → k < behind → ⊥) → is_marked now k ≡ is_marked marks k
  others now b k out = ap {B = Bool} (λ byte. byte == 1)
      (b.same (44 + k) (λ above below. out (omega (arith, above)) (omega (arith, below, order))))

  pub torn_marks : (old new : Option (List ℕ)) → old ≡ Some marks → IsTorn (44 + from) (behind - from) old new
      → (now : List ℕ) × (new ≡ Some now) × AreBeside now
  torn_marks None new was t = absurd (none_some marks was)
  torn_marks (Some x) new was t =
      let torn = subst (λ f. HasTornRange (44 + from) (behind - from) f t.0) (some_same x marks was) t.2 in
      (t.0, t.1, beside_by t.0 torn)

  module _ (o : Files → Type 0) (kept : (c : Files) → o c → c marks_name ≡ Some marks) where
    pub while_set : (c : Files) → IsAfter o (IsTorn (44 + from) (behind - from)) c
        → LeavesMarks run from behind marks o c
    while_set c after =
        let torn = torn_marks (after.0 marks_name) (c marks_name) (kept after.0 after.1) after.2.here in record {
          beside = beside o (IsTorn (44 + from) (behind - from)) c after;
          marks = torn.0;
          there = torn.1;
          ours = torn.2.of_run;
          others = others torn.0 torn.2;
        }

  many : length (replicate {A = ℕ} (behind - from) 1) ≡ behind - from
  many = length-replicate {A = ℕ} (behind - from) 1

  module _ (fits : behind ≤ run.blocks) where
    set_torn : HasTornRange (44 + from) (behind - from) marks (with_set from behind marks)
    set_torn =
        let front : length (take (44 + from) marks) ≡ 44 + from =
        length-take-le (44 + from) marks (omega (arith, order, fits, ours.size)) in
        let end : 44 + from + (behind - from) ≡ 44 + behind = omega (arith, order) in record {
          before = take_at (take (44 + from) marks) _ (44 + from) front;
          after = rw end (drop-append-two front);
          same_length = omega (
            arith,
            front,
            many,
            order,
            fits,
            ours.size,
            length-append (take (44 + from) marks) (replicate (behind - from) 1 ++ drop (44 + behind) marks),
            length-append {A = ℕ} (replicate (behind - from) 1) (drop (44 + behind) marks),
            length-drop (44 + behind) marks,
          );
        }
      where
        drop-append-two : length (take (44 + from) marks) ≡ 44 + from
            → drop (44 + behind) (with_set from behind marks) ≡ drop (44 + behind) marks
        drop-append-two front = ap (drop (44 + behind)) (sym (append_assoc (take (44 + from) marks)
            (replicate (behind - from) 1) (drop (44 + behind) marks)))
            ∙ drop_at (take (44 + from) marks ++ replicate (behind - from) 1) (drop (44 + behind) marks) (44 + behind)
            (omega (arith, front, many, order, length-append (take (44 + from) marks) (replicate (behind - from) 1)))

    pub set_beside : AreBeside (with_set from behind marks)
    set_beside = beside_by (with_set from behind marks) set_torn

    set_at : (k : ℕ) → from ≤ k → k < behind → get_or (with_set from behind marks) (44 + k) 0 ≡ 1
    set_at k above below =
        let front : length (take (44 + from) marks) ≡ 44 + from =
        length-take-le (44 + from) marks (omega (arith, order, fits, ours.size)) in
        get_or-append_right (take (44 + from) marks) (replicate (behind - from) 1 ++ drop (44 + behind) marks)
        (44 + from) (44 + k) 0 front (omega (arith, above))
        ∙ get_or_append_left (replicate (behind - from) 1) (drop (44 + behind) marks) 0 (44 + k - (44 + from))
        (omega (arith, above, below, many))
        ∙ get_or-replicate (behind - from) (44 + k - (44 + from)) 1 0 (omega (arith, above, below))

    pub are_set : AreSet run from behind marks (with_set from behind marks)
    are_set = record {
      ours = set_beside.of_run;
      set = λ k above below. ap {B = Bool} (λ byte. byte == 1) (set_at k above below);
      others = others (with_set from behind marks) set_beside;
    }

    -- the marks after the write is synced
    pub set_last : (before left old new : Option (List ℕ)) → old ≡ Some marks
        → IsTorn (44 + from) (behind - from) old left
        → IsWritten (44 + from) (replicate (behind - from) 1) before new → left ≡ new
        → left ≡ Some (with_set from behind marks)
    set_last before left old new there torn written durable =
        let now = torn_marks old left there torn in
        now.1 ∙ ap (λ bytes. Some bytes) (ext_get_or 0 now.0 (with_set from behind marks)
        (now.2.of_run.size ∙ sym set_beside.of_run.size) (each now.0 now.2
        (some_same now.0 _ (sym now.1 ∙ durable ∙ written.written))))
      where
        each : (now : List ℕ) → AreBeside now
            → now ≡ take (44 + from) written.file ++ (replicate (behind - from) 1
            ++ drop (44 + from + length (replicate {A = ℕ} (behind - from) 1)) written.file)
            → (i : ℕ) → i < length now → get_or now i 0 ≡ get_or (with_set from behind marks) i 0
        each now b is i lt = elim (cases_lt i (44 + from)) [
          | inl early ↦ b.same i (λ above. absurd (omega (arith, early, above)))
              ∙ sym (set_beside.same i (λ above. absurd (omega (arith, early, above))))
          | inr above ↦ elim (cases_lt i (44 + behind)) [
            | inl below ↦ ap (λ x. get_or x i 0) is
                ∙ written_at written.file (replicate (behind - from) 1) (44 + from) i written.inside above
                (omega (arith, below, many, order))
                ∙ get_or-replicate (behind - from) (i - (44 + from)) 1 0 (omega (arith, above, below))
                ∙ sym (ap (λ k. get_or (with_set from behind marks) k 0) (omega (arith, above))
                ∙ set_at (i - 44) (omega (arith, above)) (omega (arith, above, below)))
            | inr late ↦ b.same i (λ _ below. absurd (omega (arith, late, below, order)))
                ∙ sym (set_beside.same i (λ _ below. absurd (omega (arith, late, below, order))))
          ]
        ]

-- crash outcomes at each moment while the marks are being set
pub moments_set : {B : Type 0} (bench : Ghosts B) (run : RunId) (from behind : ℕ) → from ≤ behind → (marks : List ℕ)
    → (old new : B) → Lasts bench run marks old
    → LeavesOnly bench.moment bench.left_since old new
    (IsAfter (bench.may_leave old) (IsTorn (44 + from) (behind - from)))
    → LeavesOnly bench.moment bench.left_since old new (LeavesMarks run from behind marks (bench.may_leave old))
moments_set bench run from behind order marks old new lasts =
    weaker bench.moment bench.left_since old new (IsAfter (bench.may_leave old) (IsTorn (44 + from) (behind - from)))
    (LeavesMarks run from behind marks (bench.may_leave old))
    (while_set run from behind order marks lasts.ours (bench.may_leave old) lasts.kept)

-- crash outcomes after the marks are set
pub outcome_set : {B : Type 0} (bench : Ghosts B) (run : RunId) (from behind : ℕ) → from ≤ behind → (marks : List ℕ)
    → (old : B) → Lasts bench run marks old → (c : Files)
    → IsAfter (bench.may_leave old) (IsTorn (44 + from) (behind - from)) c
    → LeavesMarks run from behind marks (bench.may_leave old) c
outcome_set bench run from behind order marks old lasts =
    while_set run from behind order marks lasts.ours (bench.may_leave old) lasts.kept
