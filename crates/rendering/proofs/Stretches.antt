-- A job's bytes on the disk, torn and then written, and then the marks of all that are marked together with it.
use Rattle.std.proofs.Common.{◌≡◌, ◌≢◌, ◌∙◌, ◌⊎◌, ℕ, ◌+◌, ◌-◌, ◌<◌, ◌≤◌, Bool, true, false, Option, Some, None, List, ◌++◌, length, length-append, length-drop, take, drop, get_or, refl, sym, ap, inl, inr, arith}
use Rattle.std.proofs.lemmas.Bool.{cases_eq, cases_lt}
use Rattle.std.proofs.lemmas.Bool.Decides.{nat_tests}
use Rattle.std.proofs.lemmas.List.{append_assoc, drop_at, get_or-append_right, get_or_append_left, get_or-take, get_or-drop, length-take-le, take_at}
use Rattle.std.proofs.lemmas.Option.{none-some, same_Some}
use Rattle.std.specs.Prelude.{⊤, Result, Ok, Err}
use Rattle.work_terms.specs.Disk.{Files, Changes, HasTornRange, IsDurable, IsTorn, IsWritten, LeavesOnly}
use Rattle.devices.specs.Views.{CrashesLeave, output_view}
use Rattle.devices.specs.declared.bench.Bench.{Ghosts}
use Rattle.devices.specs.declared.fault.DeviceFault.{DeviceFault}
use Rattle.markfile.specs.Format.{marks_name, sound_name}
use Rattle.markfile.specs.Started.{AreSet, Lasts, LeavesMarks}
use Rattle.execution.specs.Marking.{HoldsDone, HoldsIn, IsDoneAt, IsFixed, IsMarkFile, IsRunning, Leaves, Marking, Marks, is_marked, settled}
use Rattle.execution.specs.MarkingLaws.{running_fewer, running_leaves}
use Rattle.execution.specs.Together.{with_done}
use Rattle.execution.specs.TogetherLaws.{all_settled, others_settled, settled_done, settled_more, still_settled, unsettled}
use Rattle.execution.specs.declared.fault.PlaceFault.TheVariants.{Mark, Write}
use Rattle.rendering.specs.Maker.{marks_of}
use Rattle.rendering.specs.Marked.{MarkedWork}
use Rattle.rendering.specs.Placed.{AreBlocksWith, IsStretchOf, IsTornFrom, WritesSound}
use Rattle.rendering.proofs.Jobs.{names_apart}
use Rattle.rendering.proofs.Calls.{leaves_as, leaves_both, stays_beside}

-- ---- bytes

-- inside these bounds, or not
within : (from to i : ℕ) → ((from ≤ i) × (i < to)) ⊎ (from ≤ i → i < to → ⊥)
within from to i = elim (cases_lt i from) [
  | inl before ↦ inr (λ above _. omega (arith, before, above))
  | inr above ↦ elim (cases_lt i to) [
    | inl below ↦ inl (above, below)
    | inr past ↦ inr (λ _ below. omega (arith, past, below))
  ]
]

-- what is outside of a torn range is as it was
torn-at : (at n : ℕ) (f h : List ℕ) → HasTornRange at n f h → (i : ℕ) → (at ≤ i → i < at + n → ⊥)
    → get_or h i 0 ≡ get_or f i 0
torn-at at n f h torn i out = elim (cases_lt i at) [
  | inl before ↦ cc (get_or-take at h i 0 before, get_or-take at f i 0 before, torn.before)
  | inr from ↦ elim (cases_lt i (at + n)) [
    | inl to ↦ absurd (out from to)
    | inr behind ↦ let k = i - (at + n) in
        let place : at + n + k ≡ i = omega (arith, behind) in
        cc (get_or-drop (at + n) h k 0, get_or-drop (at + n) f k 0, torn.after, place)
  ]
]

-- what is written is one of the ways in which it may be torn
pub written-torn : (at : ℕ) (bytes : List ℕ) (old new : Option (List ℕ)) → IsWritten at bytes old new
    → IsTorn at (length bytes) old new
written-torn at bytes None new w = absurd (none-some w.file w.there)
written-torn at bytes (Some f) new w =
    let was : w.file ≡ f = sym (same_Some f w.file w.there) in
    let inside : at + length bytes ≤ length f = rw was at w.inside in
    let end = drop (at + length bytes) f in
    let front : length (take at f) ≡ at = length-take-le at f (omega (arith, inside)) in (
      take at f ++ (bytes ++ end),
      rw was at w.written,
      record {
        before = take_at (take at f) (bytes ++ end) at front;
        after = rw (← append_assoc (take at f) bytes end) (drop_at (take at f ++ bytes) end (at + length bytes)
            (length-append (take at f) bytes ∙ omega (arith, front)));
        same_length = simp (length-append, length-drop) (omega (arith, front, inside));
      },
    )

-- where a byte of a written file comes from
written-in : (f b : List ℕ) (at i : ℕ) → at + length b ≤ length f → at ≤ i → i < at + length b
    → get_or (take at f ++ (b ++ drop (at + length b) f)) i 0 ≡ get_or b (i - at) 0
written-in f b at i inside from to =
    let front : length (take at f) ≡ at = length-take-le at f (omega (arith, inside)) in
    get_or-append_right (take at f) (b ++ drop (at + length b) f) at i 0 front from
    ∙ get_or_append_left b (drop (at + length b) f) 0 (i - at) (omega (arith, from, to))

-- an output that holds still does for these marks where a range is torn, if what they tell of that range is right
holds-over : (m : Marking) {marked more : ℕ → Bool} (at n : ℕ) {old new : Option (List ℕ)} → HoldsIn m marked old
    → IsTorn at n old new
    → ((i : ℕ) → (at ≤ i → i < at + n → ⊥) → IsFixed m more i → IsFixed m marked i)
    → ((file : List ℕ) → new ≡ Some file → (i : ℕ) → at ≤ i → i < at + n → IsFixed m more i
    → get_or file i 0 ≡ get_or m.whole i 0)
    → HoldsIn m more new
holds-over m at n {old = None} h torn fewer right = absurd (none-some h.bytes h.there)
holds-over m at n {old = Some f} h (file, there, torn) fewer right =
    let was : f ≡ h.bytes = same_Some f h.bytes h.there in record {
      bytes = file;
      there = there;
      holds = record {
        size = torn.same_length ∙ ap length was ∙ h.holds.size;
        same = λ i fixed. elim (within at (at + n) i) [
          | inl inside ↦ right file there i inside.0 inside.1 fixed
          | inr out ↦ torn-at at n f file torn i out ∙ ap (λ (x : List ℕ). get_or x i 0) was
              ∙ h.holds.same i (fewer i out fixed)
        ];
      };
    }

-- and so does one in which the bytes of what is done stand
done-over : (m : Marking) {done more : ℕ → Bool} (at n : ℕ) {old new : Option (List ℕ)} → HoldsDone m done old
    → IsTorn at n old new
    → ((i : ℕ) → (at ≤ i → i < at + n → ⊥) → IsDoneAt m more i → IsDoneAt m done i)
    → ((file : List ℕ) → new ≡ Some file → (i : ℕ) → at ≤ i → i < at + n → IsDoneAt m more i
    → get_or file i 0 ≡ get_or m.whole i 0)
    → HoldsDone m more new
done-over m at n {old = None} h torn fewer right = absurd (none-some h.bytes h.there)
done-over m at n {old = Some f} h (file, there, torn) fewer right =
    let was : f ≡ h.bytes = same_Some f h.bytes h.there in record {
      bytes = file;
      there = there;
      size = torn.same_length ∙ ap length was ∙ h.size;
      same = λ i is. elim (within at (at + n) i) [
        | inl inside ↦ right file there i inside.0 inside.1 is
        | inr out ↦ torn-at at n f file torn i out ∙ ap (λ (x : List ℕ). get_or x i 0) was
            ∙ h.same i (fewer i out is)
      ];
    }

-- ---- one job

module _ {B : Type 0} (g : Ghosts B) (marked : MarkedWork) (sources : Files) (done : ℕ → Bool) (job : ℕ)
    {at : ℕ} {bytes : List ℕ} (s : IsStretchOf (marks_of marked sources) job at bytes) (left : done job ≡ false)
    {old mid : B} (run : IsRunning (marks_of marked sources) done (g.stored old) (g.may_leave old))
    {result : Result ⊤ DeviceFault} (writes : WritesSound g old mid at bytes result)
  where
    abbrev m : Marking
    m = marks_of marked sources

    abbrev Torn : Files → Type 0
    Torn = IsTornFrom (g.may_leave old) sound_name at (length bytes)

    abbrev after : ℕ → Bool
    after = with_done done job

    itself : after job ≡ true
    itself = grind (arith, nat_tests)

    still : (k : ℕ) → done k ≡ true → after k ≡ true
    still k e = grind (arith, nat_tests, e)

    -- its blocks aren't marked
    unmarked : (b : ℕ) → m.from job ≤ b → b < m.end job → is_marked run.marks b ≡ false
    unmarked b from to = go (is_marked run.marks b) refl
      where
        go : (v : Bool) → is_marked run.marks b ≡ v → is_marked run.marks b ≡ false
        go false e = e
        go true e = absurd (cc (left, settled_done m done job s.there (sym (run.tell job b s.there from to) ∙ e)))

    -- the marks stay while its bytes are written, and are true
    torn-kept : (c : Files) → Torn c → c marks_name ≡ Some run.marks
    torn-kept c t = t.2.others marks_name (λ e. names_apart (sym e)) ∙ run.kept t.0 t.1

    torn-wave : (c : Files) → Torn c → HoldsIn m (is_marked run.marks) (c sound_name)
    torn-wave c t = holds-over m at (length bytes) (run.wave t.0 t.1) t.2.here (λ i out fixed. fixed)
        (λ file there i from to fixed. let b = s.cover i from to in
        cc (fixed b.0 b.1 b.4 b.5, unmarked b.0 b.2 b.3))

    -- so the run goes on
    torn-runs : {files : Files} → HoldsDone m done (files sound_name) → IsRunning m done files Torn
    torn-runs stands = record {
      marks = run.marks;
      ours = run.ours;
      tell = run.tell;
      kept = torn-kept;
      wave = torn-wave;
      stands = stands;
    }

    -- and a crash leaves its marks
    torn-leaves : (c : Files) → Torn c → Leaves m (settled m done) (settled m done) c
    torn-leaves c t = running_leaves m done (g.stored old) Torn (torn-runs {files = g.stored old} run.stands) c t

    -- a byte of a job that is done isn't the job's
    apart : (i : ℕ) → IsDoneAt m done i → at ≤ i → i < at + length bytes → ⊥
    apart i is from to = let b = s.cover i from to in cc (left, is job b.0 s.there b.2 b.3 b.4 b.5)

    -- what is done still stands where the job's place is torn
    stands-torn : Changes (IsTorn at (length bytes)) sound_name (g.stored old) (g.stored mid)
        → HoldsDone m done (g.stored mid sound_name)
    stands-torn change = done-over m at (length bytes) run.stands change.here (λ i out is. is)
        (λ file there i from to is. absurd (apart i is from to))

    -- the bytes couldn't be written
    pub placed-unwritten : Changes (IsTorn at (length bytes)) sound_name (g.stored old) (g.stored mid)
        → Marks {X = ⊤} (Some m) done job (output_view g old) (output_view g mid) (Err Write)
    placed-unwritten change = record {
      goes_on = running_fewer m done (g.stored mid) Torn (torn-runs {files = g.stored mid} (stands-torn change))
          (g.may_leave mid) writes.torn;
      moments = leaves_as g torn-leaves writes.moments;
    }

    -- ---- the job is done

    module _ (wrote : Changes (IsWritten at bytes) sound_name (g.stored old) (g.stored mid)) where
      -- its bytes stand with those that did
      stands-written : HoldsDone m after (g.stored mid sound_name)
      stands-written = done-over m at (length bytes) run.stands (written-torn at bytes _ _ wrote.here)
          (λ i out is k b lt from to begun ends. elim (cases_eq k job) [
            | inl same ↦ let own = s.own b (rw same at from) (rw same at to) in
                absurd (out (omega (arith, own.0, begun)) (omega (arith, own.1, ends)))
            | inr ne ↦ unlike k ne ∙ is k b lt from to begun ends
          ])
          (λ file there i from to is. let w = wrote.here in
          ap (λ (x : List ℕ). get_or x i 0) (same_Some file _ (sym there ∙ w.written))
          ∙ written-in w.file bytes at i w.inside from to ∙ s.right (i - at) (omega (arith, from, to))
          ∙ ap (λ (k : ℕ). get_or m.whole k 0) (omega (arith, from)))
        where
          unlike : (k : ℕ) → k ≢ job → done k ≡ after k
          unlike k ne = grind (arith, nat_tests, ne)

      -- others are still to be done that are marked together with it
      pub placed-unmarked : settled m after job ≡ false
          → Marks {X = ⊤} (Some m) done job (output_view g old) (output_view g mid) (Ok tt)
      placed-unmarked more = record {
        goes_on = record {
          marks = run.marks;
          ours = run.ours;
          tell = λ k b lt from to. run.tell k b lt from to ∙ sym (still_settled m done job s.there left more k);
          kept = λ c h. torn-kept c (writes.torn c h);
          wave = λ c h. torn-wave c (writes.torn c h);
          stands = stands-written;
        };
        moments = leaves_as g (λ c t. record {
          marks = run.marks;
          there = torn-kept c t;
          ours = run.ours;
          still = λ k b lt from to on. run.tell k b lt from to ∙ on;
          only = λ k b lt from to on. settled_more m done after still k (sym (run.tell k b lt from to) ∙ on);
          wave = torn-wave c t;
        }) writes.moments;
      }

    -- ---- the last of those that are marked together with it

    module _ {first end : ℕ} (w : AreBlocksWith (marks_of marked sources) job first end)
        (all : settled m after job ≡ true) where
      -- marks that are as they were but for their blocks
      abbrev Alike : (ℕ → Bool) → Type 0
      Alike more = (b : ℕ) → (first ≤ b → b < end → ⊥) → more b ≡ is_marked run.marks b

      -- so are those of all other jobs
      tell : (marks : List ℕ) → Alike (is_marked marks) → (j b : ℕ) → j < m.jobs
          → m.group j ≢ m.group job → m.from j ≤ b → b < m.end j
          → is_marked marks b ≡ settled m done j
      tell marks alike j b lt ne from to =
          alike b (λ above below. ne (w.own j b lt from to above below)) ∙ run.tell j b lt from to

      others : (j : ℕ) → m.group j ≢ m.group job → settled m after j ≡ settled m done j
      others j ne = others_settled m done job s.there left j ne

      now-settled : (j : ℕ) → m.group j ≡ m.group job → settled m after j ≡ true
      now-settled j same = all_settled m done job s.there left all j same

      -- a moment with such marks, over an output that holds for them
      leave : (c : Files) (marks : List ℕ) → c marks_name ≡ Some marks → IsMarkFile m marks → Alike (is_marked marks)
          → HoldsIn m (is_marked marks) (c sound_name) → Leaves m (settled m done) (settled m after) c
      leave c marks there ours alike holds = record {
        marks = marks;
        there = there;
        ours = ours;
        still = λ j b lt from to on. elim (cases_eq (m.group j) (m.group job)) [
          | inl same ↦ absurd (cc (on, unsettled m done job s.there left j same))
          | inr ne ↦ tell marks alike j b lt ne from to ∙ on
        ];
        only = λ j b lt from to on. elim (cases_eq (m.group j) (m.group job)) [
          | inl same ↦ now-settled j same
          | inr ne ↦ others j ne ∙ sym (tell marks alike j b lt ne from to) ∙ on
        ];
        wave = holds;
      }

      abbrev Left : Files → Type 0
      Left = LeavesMarks marked.run first end run.marks (g.may_leave mid)

      module _ (new : B) (wrote : Changes (IsWritten at bytes) sound_name (g.stored old) (g.stored mid))
          (durable : IsDurable sound_name (g.stored mid) (g.may_leave mid))
          (marks : Lasts g marked.run run.marks mid → LeavesOnly g.moment g.left_since mid new Left)
          (crash : Lasts g marked.run run.marks mid → (c : Files) → g.may_leave new c → Left c) where
        -- the run's marks last meanwhile
        lasts : Lasts g marked.run run.marks mid
        lasts = record {
          ours = record { front = run.ours.front; size = run.ours.size };
          kept = λ c h. torn-kept c (writes.torn c h);
        }

        -- what is marked by marks that are alike is of jobs that are done
        marks-done : (more : ℕ → Bool) → Alike more → (i : ℕ) → IsFixed m more i → IsDoneAt m after i
        marks-done more alike i fixed j b lt from to begun ends = elim (within first end b) [
          | inl own ↦ settled_done m after j lt (now-settled j (w.own j b lt from to own.0 own.1))
          | inr outside ↦ still j (settled_done m done j lt (sym (run.tell j b lt from to) ∙ sym (alike b outside)
              ∙ fixed b (w.few j b lt to) begun ends))
        ]

        -- the output holds for all of them
        wave : (c : Files) → Left c → (more : ℕ → Bool) → Alike more → HoldsIn m more (c sound_name)
        wave c l more alike =
            let d = stays_beside (g.may_leave mid) marks_name sound_name c names_apart l.beside in
            let stands = stands-written wrote in record {
              bytes = stands.bytes;
              there = d.2 ∙ durable d.0 d.1 ∙ stands.there;
              holds = record { size = stands.size; same = λ i fixed. stands.same i (marks-done more alike i fixed) };
            }

        -- at each moment of both calls the marks are true
        moments : CrashesLeave (Leaves m (settled m done) (settled m after)) (output_view g old) (output_view g new)
        moments = leaves_both g
            (λ c t. leave c run.marks (torn-kept c t) run.ours (λ b out. refl) (torn-wave c t))
            writes.moments
            (λ c l. leave c l.marks l.there (record { front = l.ours.front; size = l.ours.size }) l.others
            (wave c l (is_marked l.marks) l.others)) (marks lasts)

        -- they are marked
        pub placed-marked : g.stored new sound_name ≡ g.stored mid sound_name
            → (Lasts g marked.run run.marks mid → end ≤ marked.run.blocks
            → (now : List ℕ) × AreSet marked.run first end run.marks now × Lasts g marked.run now new)
            → Marks {X = ⊤} (Some m) done job (output_view g old) (output_view g new) (Ok tt)
        placed-marked same set = let is = set lasts w.inside in record {
          goes_on = record {
            marks = is.0;
            ours = record { front = is.1.ours.front; size = is.1.ours.size };
            tell = λ j b lt from to. elim (cases_eq (m.group j) (m.group job)) [
              | inl same ↦ let own = w.all j b lt from to same in is.1.set b own.0 own.1 ∙ sym (now-settled j same)
              | inr ne ↦ tell is.0 is.1.others j b lt ne from to ∙ sym (others j ne)
            ];
            kept = is.2.kept;
            wave = λ c h. wave c (crash lasts c h) (is_marked is.0) is.1.others;
            stands = rw same (stands-written wrote);
          };
          moments = moments;
        }

        -- or they couldn't be: any of them may be set
        pub placed-broken : Marks {X = ⊤} (Some m) done job (output_view g old) (output_view g new) (Err Mark)
        placed-broken = record {
          goes_on = record {
            job = job;
            is_done = all;
            true_of_all = λ c d at also. let l = crash lasts c at in record {
              marks = l.marks;
              there = l.there;
              ours = record { front = l.ours.front; size = l.ours.size };
              sound = wave d (crash lasts d also) (is_marked l.marks) l.others;
            };
            tell = λ c d at also j b lt ne from to. let l = crash lasts c at in
                tell l.marks l.others j b lt ne from to ∙ sym (others j ne);
          };
          moments = moments;
        }
