-- Properties of opened marks, and a run opens its own marks.
use Rattle.std.proofs.Common.{◌≡◌, ◌∙◌, ℕ, ◌+◌, ◌<◌, Bool, true, false, cond, ◌&&◌, ◌==◌, nat_le, Option, Some, None, Result, Ok, Err, List, ◌∷◌, ◌++◌, codes, length, take, drop, get_or, map, sym, ap, refl, arith}
use Rattle.std.specs.Prelude.{IfOk, IfSome, option_map}
use Rattle.std.proofs.lemmas.Bool.Decides.{nat_tests}
use Rattle.std.proofs.lemmas.List.{drop-drop, drop_more, get_or-drop, get_or-map, get_or-take, length-drop, length-map, length-take, take-append-drop, take_all}
use Rattle.std.proofs.lemmas.Slice.Eq.{bytes_eq-Decides}
use Rattle.sound_terms.specs.Chunks.{stands_at}
use Rattle.sound_terms.specs.Laws.{length-u32_bytes}
use Rattle.sound_terms.specs.Waves.{u32_bytes}
use Rattle.work_terms.specs.Disk.{Files}
use Rattle.markfile.specs.declared.run.RunId.{RunId}
use Rattle.markfile.specs.declared.fault.MarkFault.{MarkFault}
use Rattle.markfile.specs.declared.fault.MarkFault.TheVariants.{BadMarks, OtherRun}
use Rattle.markfile.specs.Format.{AreMarksOf, head_of, is_marked, marks_name, sound_name}
use Rattle.markfile.specs.declared.found_marks.Marks.{Marks}
use Rattle.markfile.specs.Opened.{Answers, AreFound, fits_run, front_fault, has_length, marks_in, opened_by, opened_of, told}
use Rattle.markfile.specs.Started.{is_started}

-- ---- bytes at an offset

stands : (text bytes : List ℕ) (at n : ℕ) → length text ≡ n → stands_at text at bytes ≡ true
    → take n (drop at bytes) ≡ text
stands text bytes at n long h =
    ap (λ k. take k (drop at bytes)) (sym long) ∙ sym ((bytes_eq-Decides text (take (length text) (drop at bytes))).0 h)

stood : (text bytes : List ℕ) (at n : ℕ) → length text ≡ n → take n (drop at bytes) ≡ text
    → stands_at text at bytes ≡ true
stood text bytes at n long e = (bytes_eq-Decides text (take (length text) (drop at bytes))).1
    (sym e ∙ ap (λ k. take k (drop at bytes)) (sym long))

part : (n at end : ℕ) (bytes : List ℕ) → at + n ≡ end → drop at bytes ≡ take n (drop at bytes) ++ drop end bytes
part n at end bytes e = sym (ap (λ k. take n (drop at bytes) ++ drop k bytes) (sym e)
    ∙ ap (λ rest. take n (drop at bytes) ++ rest) (sym (drop-drop n at bytes)) ∙ take-append-drop n (drop at bytes))

-- a front from its parts
front_by : (run : RunId) (front : List ℕ) → length run.digest ≡ 32 → length front ≡ 44 → get_or front 0 0 ≡ 1
    → take 7 (drop 1 front) ≡ codes "ADLMRK1" → take 32 (drop 8 front) ≡ run.digest
    → take 4 (drop 40 front) ≡ u32_bytes run.blocks → front ≡ 1 ∷ head_of run
unfolding head_of
front_by run front whole long gate magic digest blocks =
    drop_more front 0 0 (omega (arith, long)) ∙ ap (λ b. b ∷ drop 1 front) gate
    ∙ ap (λ rest. 1 ∷ rest) (part 7 1 8 front refl ∙ ap (λ text. text ++ drop 8 front) magic
    ∙ ap (λ rest. codes "ADLMRK1" ++ rest) (part 32 8 40 front refl ∙ ap (λ text. text ++ drop 40 front) digest
    ∙ ap (λ rest. run.digest ++ rest)
    (sym (take_all 4 (drop 40 front) (omega (arith, long, length-drop 40 front))) ∙ blocks)))

-- ---- tests

apart : true ≡ false → ⊥
apart h = cc

both : (a b : Bool) → (a && b) ≡ true → (a ≡ true) × (b ≡ true)
both true b h = (refl, h)
both false b h = absurd (apart (sym h))

told_by : (marks : List ℕ) (fault : Option MarkFault) (marked : List Bool) → told marks fault ≡ Ok (Some marked)
    → (fault ≡ None) × (marked ≡ map (λ (byte : ℕ). byte == 1) (drop 44 marks))
told_by marks None marked e = (refl, cc)
told_by marks (Some f) marked e = absurd (no_fault e)
  where
    no_fault : told marks (Some f) ≡ Ok (Some marked) → ⊥
    no_fault h = cc

no_marks : (due : Result (Option (List Bool)) MarkFault) (marked : List Bool) → due ≡ Ok None
    → due ≡ Ok (Some marked) → ⊥
no_marks due marked e f = cc

started_by : (b : Bool) (x : Result (Option (List Bool)) MarkFault) (marked : List Bool)
    → cond b x (Ok None) ≡ Ok (Some marked) → (b ≡ true) × (x ≡ Ok (Some marked))
started_by true x marked e = (refl, e)
started_by false x marked e = absurd (no_marks (Ok None) marked refl e)

some_none : (fault : MarkFault) → Some fault ≡ None → ⊥
some_none fault e = cc

faultless : (a b d : Bool)
    → cond a (cond b (cond d None (Some BadMarks)) (Some OtherRun)) (Some BadMarks) ≡ None
    → (a ≡ true) × (b ≡ true) × (d ≡ true)
faultless true true true e = (refl, refl, refl)
faultless true true false e = absurd (some_none BadMarks e)
faultless true false d e = absurd (some_none OtherRun e)
faultless false b d e = absurd (some_none BadMarks e)

length_is : (n : ℕ) (size : Option ℕ) → has_length n size ≡ true → size ≡ Some n
length_is n None h = absurd (apart (sym h))
length_is n (Some m) h = ap (λ k. Some k) (equal m h)
  where
    equal : (k : ℕ) → (k == n) ≡ true → k ≡ n
    equal k e = grind (arith, nat_tests)

is_equal : (m n : ℕ) → (m == n) ≡ true → m ≡ n
is_equal m n e = grind (arith, nat_tests)

-- ---- opened marks

mark_in : (marks : List ℕ) (blocks block : ℕ) → length marks ≡ 44 + blocks → block < blocks
    → get_or (map (λ (byte : ℕ). byte == 1) (drop 44 marks)) block false ≡ is_marked marks block
mark_in marks blocks block size few =
    get_or-map (λ (byte : ℕ). byte == 1) (drop 44 marks) block 0 false (omega (arith, size, few, length-drop 44 marks))
    ∙ ap (λ (byte : ℕ). byte == 1) (get_or-drop 44 marks block 0)

record Tested (run : RunId) (sound : Option ℕ) (marks : List ℕ) (marked : List Bool) : Type 0 where
  pub ours : AreMarksOf run marks
  pub sound_is : sound ≡ Some run.length
  pub marked_is : marked ≡ map (λ (byte : ℕ). byte == 1) (drop 44 marks)

tested : (run : RunId) → length run.digest ≡ 32 → (sound : Option ℕ) (marks : List ℕ) (marked : List Bool)
    → marks_in run sound marks ≡ Ok (Some marked) → Tested run sound marks marked
tested run whole sound marks marked e =
    let front = take 44 marks in
    let started =
    started_by (is_started (Some marks)) (told marks (front_fault run front (length marks) sound)) marked e in
    let due = told_by marks (front_fault run front (length marks) sound) marked started.1 in
    let tests = faultless (stands_at (codes "ADLMRK1") 1 front) (stands_at run.digest 8 front)
    (fits_run run front (length marks) sound) due.0 in
    let fits = both (stands_at (u32_bytes run.blocks) 40 front)
    (length marks == 44 + run.blocks && has_length run.length sound) tests.2 in
    let lengths = both (length marks == 44 + run.blocks) (has_length run.length sound) fits.1 in
    let gate = both (nat_le 44 (length marks)) (get_or marks 0 0 == 1) started.0 in
    let size = is_equal (length marks) (44 + run.blocks) lengths.0 in
    let long : length front ≡ 44 = omega (arith, size, length-take 44 marks) in record {
      ours = record {
        front = front_by run front whole long
            (get_or-take 44 marks 0 0 (omega arith) ∙ is_equal (get_or marks 0 0) 1 gate.1)
            (stands (codes "ADLMRK1") front 1 7 refl tests.0) (stands run.digest front 8 32 whole tests.1)
            (stands (u32_bytes run.blocks) front 40 4 (length-u32_bytes run.blocks) fits.0);
        size = size;
      };
      sound_is = length_is run.length sound lengths.1;
      marked_is = due.1;
    }

pub found : (run : RunId) → length run.digest ≡ 32 → (files : Files) (marked : List Bool)
    → opened_of run files ≡ Ok (Some marked) → AreFound run files marked
found run whole files marked e = go (files marks_name) refl e
  where
    go : (marks : Option (List ℕ)) → files marks_name ≡ marks
        → opened_by run (option_map length (files sound_name)) marks ≡ Ok (Some marked) → AreFound run files marked
    go None there h = absurd (no_marks (Ok None) marked refl h)
    go (Some marks) there h =
        let t = tested run whole (option_map length (files sound_name)) marks marked h in record {
          marks = marks;
          there = there;
          ours = t.ours;
          sound = t.sound_is;
          count = ap length t.marked_is ∙ length-map (drop 44 marks) (λ (byte : ℕ). byte == 1)
              ∙ omega (arith, t.ours.size, length-drop 44 marks);
          each = λ block few. ap (λ bits. get_or bits block false) t.marked_is
              ∙ mark_in marks run.blocks block t.ours.size few;
        }

-- properties of opened marks by the result of the call
pub found_by : (run : RunId) → length run.digest ≡ 32 → (files : Files)
    (result : Result (Option Marks) MarkFault) → Answers result (opened_of run files)
    → IfOk result (λ answer. IfSome answer (λ marks. AreFound run files marks.marked.items))
found_by run whole files (Ok (Some marks)) due = found run whole files marks.marked.items due
found_by run whole files (Ok None) due = tt
found_by run whole files (Err fault) due = tt
