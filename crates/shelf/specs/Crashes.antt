-- Properties of recorded files, and of the files that a crash may leave.
use Rattle.std.proofs.Common.{◌≡◌, ◌≢◌, ◌⊎◌, ◌∙◌, ℕ, ◌+◌, ◌-◌, ◌≤◌, nat_le, Bool, true, false, cond, if◌then◌else◌, ◌==◌, Option, Some, None, List, [], ◌∷◌, ◌++◌, length, take, drop, replicate, option_map, refl, sym, ap, subst, inl, inr, arith}
use Rattle.std.specs.Str.{bytes_eq}
use Rattle.std.proofs.lemmas.Bool.{false_from_ne_true, cases_Bool, leb-true}
use Rattle.std.proofs.lemmas.Option.{none-some}
use Rattle.std.proofs.lemmas.Slice.Eq.{bytes_eq-Decides}
use Rattle.std.proofs.lemmas.List.{append_assoc, drop_at, drop-drop, length-append, length-drop, length-take, length-take-le, length-replicate, take_at}
use Rattle.work_terms.specs.Disk.{Files, Changes, Elapses, Follows, HasTornEnd, HasTornRange, IsDurable, IsEmptyOrAbsent, OfFile}
use Rattle.shelf.specs.declared.memory.call.Kind.{Kind}
use Rattle.shelf.specs.declared.memory.call.Kind.TheVariants.{Create, Append, Write, Sync}
use Rattle.shelf.specs.History.{Note, History, noted, placed, with_bytes, done_by, done, replayed, read_of, step_by, step, HoldsBy, HoldsIf, MayHold, MayLeave, LeftSince, spoilt_by, left_by, crashed}

-- a name equals itself
pub same_name : (name : List ℕ) → bytes_eq name name ≡ true
same_name name = (bytes_eq-Decides name name).1 refl

-- different names compare unequal
pub other_name : (name other : List ℕ) → name ≢ other → bytes_eq name other ≡ false
other_name name other apart = false_from_ne_true _ (λ same. apart ((bytes_eq-Decides name other).0 same))

placed_before : (at : ℕ) (bytes file : List ℕ) → at ≤ length file → take at (placed at bytes file) ≡ take at file
placed_before at bytes file room = take_at (take at file) _ at (length-take-le at file room)

-- at most n bytes written at offset `at` leave the bytes after the n unchanged
placed_behind : (at n : ℕ) (bytes file : List ℕ) → length bytes ≤ n → at ≤ length file
    → drop (at + n) (placed at bytes file) ≡ drop (at + n) file
placed_behind at n bytes file few room =
    let front : length (take at file ++ bytes) ≡ at + length bytes =
    omega (arith, length-take-le at file room, length-append (take at file) bytes) in
    let rest : drop (at + length bytes) (placed at bytes file) ≡ drop (at + length bytes) file =
    ap (drop (at + length bytes)) (sym (append_assoc (take at file) bytes (drop (at + length bytes) file)))
    ∙ drop_at (take at file ++ bytes) (drop (at + length bytes) file) (at + length bytes) front in
    let whole : at + length bytes + (n - length bytes) ≡ at + n = omega (arith, few) in
    ap (λ k. drop k (placed at bytes file)) (sym whole)
    ∙ sym (drop-drop (n - length bytes) (at + length bytes) (placed at bytes file))
    ∙ ap (drop (n - length bytes)) rest
    ∙ drop-drop (n - length bytes) (at + length bytes) file
    ∙ ap (λ k. drop k file) whole

placed_length : (at : ℕ) (bytes file : List ℕ) → at ≤ length file
    → length (placed at bytes file) ≡ at + (length bytes + (length file - (at + length bytes)))
placed_length at bytes file room =
    omega (
      arith,
      length-take-le at file room,
      length-append (take at file) (bytes ++ drop (at + length bytes) file),
      length-append bytes (drop (at + length bytes) file),
      length-drop (at + length bytes) file,
    )

-- an append changes at most its n bytes at the end
torn_end : (at n : ℕ) (bytes file : List ℕ) → length bytes ≤ n
    → HasTornEnd at n file (with_bytes Append at n bytes file)
torn_end at n bytes file few = elim (cases_Bool (nat_le at (length file))) [
  | inl room ↦ let inside : at ≤ length file = leb-true at (length file) room in rw room (record {
    before = placed_before at bytes file inside;
    after = placed_behind at n bytes file few inside;
    no_shorter = omega (arith, inside, placed_length at bytes file inside);
    no_longer = omega (arith, inside, few, placed_length at bytes file inside);
  })
  | inr none ↦ rw none (record { before = refl; after = refl; no_shorter = omega arith; no_longer = omega arith })
]

-- an overwrite changes at most its n bytes
torn_range : (at n : ℕ) (bytes file : List ℕ) → length bytes ≤ n
    → HasTornRange at n file (with_bytes Write at n bytes file)
torn_range at n bytes file few = elim (cases_Bool (nat_le (at + n) (length file))) [
  | inl room ↦ let inside : at + n ≤ length file = leb-true (at + n) (length file) room in rw room (record {
    before = placed_before at bytes file (omega (arith, inside));
    after = placed_behind at n bytes file few (omega (arith, inside));
    same_length = omega (arith, inside, few, placed_length at bytes file (omega (arith, inside)));
  })
  | inr none ↦ rw none (record { before = refl; after = refl; same_length = refl })
]

-- a change of an existing file satisfies the relation; a file that doesn't exist still doesn't
of_file : (relation : List ℕ → List ℕ → Type 0) (change : List ℕ → List ℕ) → ((file : List ℕ) → relation file (change file))
    → (old : Option (List ℕ)) → OfFile relation old (option_map change old)
of_file relation change each None = refl
of_file relation change each (Some file) = (change file, refl, each file)

-- an unchanged file satisfies a reflexive relation
same_file : (relation : List ℕ → List ℕ → Type 0) → ((file : List ℕ) → relation file file) → (old : Option (List ℕ))
    → OfFile relation old old
same_file relation each None = refl
same_file relation each (Some file) = (file, refl, each file)

-- a call may have no effect
pub stays_by : (kind : Kind) (note : Note) (old : Option (List ℕ)) → step_by kind note old old
stays_by Create note old = inl refl
stays_by Append note old = same_file _ (λ file. record {
  before = refl;
  after = refl;
  no_shorter = omega arith;
  no_longer = omega arith;
}) old
stays_by Write note old = same_file _ (λ file. record { before = refl; after = refl; same_length = refl }) old
stays_by Sync note old = refl

short_take : (n : ℕ) (bytes : List ℕ) → length (take n bytes) ≤ length bytes
short_take n bytes = omega (arith, length-take n bytes)

-- the effect of a call is one that its step allows
pub does_by : (kind : Kind) (note : Note) (old : Option (List ℕ)) → step_by kind note old (done_by kind note old)
does_by Create note old = elim (cases_Bool (note.part == 0)) [
  | inl none ↦ rw none (inl refl)
  | inr some_of ↦ rw some_of (inr (inr refl))
]
does_by Append note old =
    of_file _ _ (λ file. torn_end note.at _ (take note.part note.bytes) file (short_take note.part note.bytes)) old
does_by Write note old =
    of_file _ _ (λ file. torn_range note.at _ (take note.part note.bytes) file (short_take note.part note.bytes)) old
does_by Sync note old = refl

-- no call deletes a file
stands_by : (kind : Kind) (note : Note) (old : Option (List ℕ)) → done_by kind note old ≡ None → old ≡ None
stands_by Create note old none = elim (cases_Bool (note.part == 0)) [
  | inl none_of ↦ rw none_of at none
  | inr some_of ↦ absurd (none-some [] (sym (rw some_of at none)))
]
stands_by Append note None none = refl
stands_by Append note (Some file) none = absurd (none-some _ (sym none))
stands_by Write note None none = refl
stands_by Write note (Some file) none = absurd (none-some _ (sym none))
stands_by Sync note old none = none

-- the contents that are read are one of the possible outcomes of a crash
reads_by : (kind : Kind) (note : Note) (held : Option (List ℕ) → Type 0) (old : Option (List ℕ)) → held old
    → HoldsBy kind note (done_by kind note old) held (done_by kind note old)
reads_by Create note held old was = record { before = old; was = was; changed = does_by Create note old; gone = inl }
reads_by Append note held old was = record { before = old; was = was; changed = does_by Append note old; gone = inl }
reads_by Write note held old was = record { before = old; was = was; changed = does_by Write note old; gone = inl }
reads_by Sync note held old was = refl

-- the files that are read are one of the possible outcomes of a crash
pub reads_held : (start : Files) (notes : List Note) (name : List ℕ)
    → MayHold start notes name (replayed start notes name)
reads_held start [] name = refl
reads_held start (note ∷ notes) name = elim (cases_Bool (bytes_eq name note.name)) [
  | inl same ↦ rw same (reads_by note.kind note (MayHold start notes name) (replayed start notes name)
      (reads_held start notes name))
  | inr apart ↦ rw apart (reads_held start notes name)
]

-- if reads find no file, a crash leaves none or an empty one
gone_by : (kind : Kind) (note : Note) (held : Option (List ℕ) → Type 0) (read x : Option (List ℕ)) → read ≡ None
    → HoldsBy kind note read held x → IsEmptyOrAbsent x
gone_by Create note held read x none holds = holds.gone none
gone_by Append note held read x none holds = holds.gone none
gone_by Write note held read x none holds = holds.gone none
gone_by Sync note held read x none holds = inl (holds ∙ none)

-- if reads of a name find no file, a crash leaves none or an empty one under that name
pub gone_held : (start : Files) (notes : List Note) (name : List ℕ) (x : Option (List ℕ))
    → replayed start notes name ≡ None → MayHold start notes name x → IsEmptyOrAbsent x
gone_held start [] name x none holds = inl (holds ∙ none)
gone_held start (note ∷ notes) name x none holds = elim (cases_Bool (bytes_eq name note.name)) [
  | inl same ↦ gone_by note.kind note (MayHold start notes name) (replayed start (note ∷ notes) name) x none
      (subst (λ (b : Bool). HoldsIf b note (replayed start (note ∷ notes) name) (MayHold start notes name) x) same holds)
  | inr apart ↦ gone_held start notes name x
      (subst (λ (b : Bool). cond b (done note (replayed start notes name)) (replayed start notes name) ≡ None) apart none)
      (subst (λ (b : Bool). HoldsIf b note (replayed start (note ∷ notes) name) (MayHold start notes name) x) apart holds)
]

-- an outcome of a crash now is an outcome since any earlier moment
pub counts_now : (history : History) (t : ℕ) (c : Files) → MayLeave history c
    → LeftSince history.start history.notes t c
counts_now history t c left = by_notes history.start history.notes left
  where
    by_notes : (start : Files) (notes : List Note) → MayLeave (record { start = start; notes = notes }) c
        → LeftSince start notes t c
    by_notes start [] left = left
    by_notes start (note ∷ notes) left = inl left

-- an outcome since now is an outcome of a crash now
pub only_now : (start : Files) (notes : List Note) (c : Files) → LeftSince start notes (length notes) c
    → MayLeave (record { start = start; notes = notes }) c
only_now start [] c since = since
only_now start (note ∷ notes) c (inl left) = left
only_now start (note ∷ notes) c (inr since) = absurd (omega (arith, since.0))

-- a recorded call changes its own file and no other
pub changes_noted : (note : Note) (start : Files) (notes : List Note)
    → Changes (λ old new. new ≡ done note old) note.name (replayed start notes) (replayed start (note ∷ notes))
changes_noted note start notes = record {
  here = ap (λ (b : Bool). cond b (done note (replayed start notes note.name)) (replayed start notes note.name))
      (same_name note.name);
  others = λ other apart.
      ap (λ (b : Bool). cond b (done note (replayed start notes other)) (replayed start notes other))
      (other_name other note.name apart);
}

-- an outcome with the contents of one file replaced
abbrev exchanged : List ℕ → Option (List ℕ) → Files → Files
exchanged name file c other = if bytes_eq other name then file else c other

-- an outcome after a call follows from one before it by the step of the call
past_by : (kind : Kind) (note : Note) (held : Option (List ℕ) → Type 0) (old x : Option (List ℕ)) → held old
    → HoldsBy kind note (done_by kind note old) held x
    → (before : Option (List ℕ)) × held before × step_by kind note before x
past_by Create note held old x was holds = (holds.before, holds.was, holds.changed)
past_by Append note held old x was holds = (holds.before, holds.was, holds.changed)
past_by Write note held old x was holds = (holds.before, holds.was, holds.changed)
past_by Sync note held old x was holds = (old, was, holds)

-- each outcome after a call follows from an older outcome by the step of the call
pub follows : (note : Note) (history : History)
    → Follows (Changes (step note) note.name) (MayLeave history) (MayLeave (noted note history))
follows note history c left =
    let past = past_by note.kind note (MayHold start notes name) (replayed start notes name) (c name)
    (reads_held start notes name) here in (
      exchanged name past.0 c,
      outcomes past.0 past.1,
      record {
        here = subst (λ (b : Bool). step note (cond b past.0 (c name)) (c name)) (sym (same_name name)) past.2;
        others = λ other apart. sym (ap (λ (b : Bool). cond b past.0 (c other)) (other_name other name apart));
      },
    )
  where
    start : Files
    start = history.start

    notes : List Note
    notes = history.notes

    name : List ℕ
    name = note.name

    here : HoldsBy note.kind note (done note (replayed start notes name)) (MayHold start notes name) (c name)
    here = subst (λ (b : Bool). HoldsIf b note (cond b (done note (replayed start notes name)) (replayed start notes name))
        (MayHold start notes name) (c name)) (same_name name) (left name)

    outcomes : (before : Option (List ℕ)) → MayHold start notes name before → MayLeave history (exchanged name before c)
    outcomes before was other = elim (cases_Bool (bytes_eq other name)) [
      | inl same ↦ rw same (subst (λ (n : List ℕ). MayHold start notes n before)
          (sym ((bytes_eq-Decides other name).0 same)) was)
      | inr apart ↦ rw apart (subst (λ (b : Bool). HoldsIf b note
          (cond b (done note (replayed start notes other)) (replayed start notes other)) (MayHold start notes other)
          (c other)) apart (left other))
    ]

-- a recorded call advances time by one moment
pub elapses_noted : (note : Note) (history : History) → Elapses (length history.notes) (length (note ∷ history.notes))
    (LeftSince history.start history.notes) (LeftSince history.start (note ∷ history.notes))
    (MayLeave (noted note history))
elapses_noted note history = record {
  later = omega arith;
  nothing_else = λ t c early since. swapped t c since;
  keeps = λ t c early past. inr (early, past);
}
  where
    swapped : (t : ℕ) (c : Files) → LeftSince history.start (note ∷ history.notes) t c
        → LeftSince history.start history.notes t c ⊎ MayLeave (noted note history) c
    swapped t c (inl left) = inr left
    swapped t c (inr since) = inl since.1

-- time doesn't advance without a call
pub elapses_same : (history : History) → Elapses (length history.notes) (length history.notes)
    (LeftSince history.start history.notes) (LeftSince history.start history.notes) (MayLeave history)
elapses_same history = record {
  later = omega arith;
  nothing_else = λ t c early since. inl since;
  keeps = λ t c early past. past;
}

-- the call was recorded, or nothing happened
abbrev pub IsChange : Note → History → History → Type 0
IsChange note old new = (new ≡ old) ⊎ (new ≡ noted note old)

-- effect of a call on the files, on the outcomes of a crash, and on time
pub record HasChanged (note : Note) (old new : History) : Type 0 where
  pub crash : Follows (Changes (step note) note.name) (MayLeave old) (MayLeave new)
  pub time : Elapses (length old.notes) (length new.notes) (LeftSince old.start old.notes) (LeftSince new.start new.notes)
      (MayLeave new)
  pub read : (read_of new ≡ read_of old) ⊎ Changes (λ before now. now ≡ done note before) note.name (read_of old)
      (read_of new)
  pub others : (n : List ℕ) → n ≢ note.name → read_of new n ≡ read_of old n
  pub durable : (n : List ℕ) → n ≢ note.name → IsDurable n (read_of old) (MayLeave old)
      → IsDurable n (read_of new) (MayLeave new)

-- a call has these effects, whether it was recorded or not
pub has_changed : (note : Note) (old new : History) → IsChange note old new → HasChanged note old new
has_changed note old new (inl same) = subst (HasChanged note old) (sym same) (record {
  crash = λ c left. (c, left, record { here = stays_by note.kind note (c note.name); others = λ n apart. refl });
  time = elapses_same old;
  read = inl refl;
  others = λ n apart. refl;
  durable = λ n apart durable. durable;
})
has_changed note old new (inr more) = subst (HasChanged note old) (sym more) (record {
  crash = follows note old;
  time = elapses_noted note old;
  read = inr (changes_noted note old.start old.notes);
  others = (changes_noted note old.start old.notes).others;
  durable = λ n apart durable c left.
      let past = follows note old c left in past.2.others n apart ∙ durable past.0 past.1
      ∙ sym ((changes_noted note old.start old.notes).others n apart);
})

-- effect of a sync: the file is durable, and no new outcome is possible
pub record HasSynced (name : List ℕ) (old new : History) : Type 0 where
  pub crash : (c : Files) → MayLeave new c → MayLeave old c
  pub durable : IsDurable name (read_of new) (MayLeave new)

-- a recorded sync has these effects
pub has_synced : (note : Note) (old : History) → note.kind ≡ Sync → HasSynced note.name old (noted note old)
has_synced note old is = record { crash = crash; durable = durable }
  where
    crash : (c : Files) → MayLeave (noted note old) c → MayLeave old c
    crash c left other =
        let past = follows note old c left in
        let step_is : c note.name ≡ past.0 note.name =
        subst (λ (k : Kind). step_by k note (past.0 note.name) (c note.name)) is past.2.here in
        elim (cases_Bool (bytes_eq other note.name)) [
          | inl same ↦ subst (λ (n : List ℕ). MayHold old.start old.notes n (c n))
              (sym ((bytes_eq-Decides other note.name).0 same))
              (subst (MayHold old.start old.notes note.name) (sym step_is) (past.1 note.name))
          | inr apart ↦ subst (λ (b : Bool). HoldsIf b note
              (cond b (done note (replayed old.start old.notes other)) (replayed old.start old.notes other))
              (MayHold old.start old.notes other) (c other)) apart (left other)
        ]

    durable : IsDurable note.name (read_of (noted note old)) (MayLeave (noted note old))
    durable c left =
        subst (λ (k : Kind). HoldsBy k note (read_of (noted note old) note.name) (MayHold old.start old.notes note.name)
        (c note.name)) is
        (subst (λ (b : Bool). HoldsIf b note (read_of (noted note old) note.name) (MayHold old.start old.notes note.name)
        (c note.name)) (same_name note.name) (left note.name))

-- if reads find no file, the simulated crash leaves none
none_by : (kind : Kind) (kept fill : ℕ) (note : Note) (read file : Option (List ℕ)) → done_by kind note read ≡ None
    → file ≡ None → left_by kind kept fill note read file ≡ None
none_by Create kept fill note read file none gone = elim (cases_Bool (kept == 0)) [
  | inl none_of ↦ rw none_of gone
  | inr some_of ↦ rw some_of (elim (cases_Bool (note.part == 0)) [
    | inl none_of ↦ rw none_of gone
    | inr part ↦ absurd (none-some [] (sym (rw part at none)))
  ])
]
none_by Append kept fill note read None none gone = refl
none_by Append kept fill note read (Some file) none gone = absurd (none-some file (sym gone))
none_by Write kept fill note read None none gone = refl
none_by Write kept fill note read (Some file) none gone = absurd (none-some file (sym gone))
none_by Sync kept fill note None file none gone = gone
none_by Sync kept fill note (Some read) file none gone = none

-- if reads of a name find no file, the simulated crash leaves none under that name
pub none_left : (kept fill : ℕ) (start : Files) (notes : List Note) (name : List ℕ)
    → replayed start notes name ≡ None → crashed kept fill start notes name ≡ None
none_left kept fill start [] name none = none
none_left kept fill start (note ∷ notes) name none = elim (cases_Bool (bytes_eq name note.name)) [
  | inl same ↦ rw same (let gone : done note (replayed start notes name) ≡ None =
      subst (λ (b : Bool). cond b (done note (replayed start notes name)) (replayed start notes name) ≡ None) same none
      in none_by note.kind kept fill note (replayed start notes name) (crashed kept fill start notes name) gone
      (none_left kept fill start notes name (stands_by note.kind note (replayed start notes name) gone)))
  | inr apart ↦ rw apart (none_left kept fill start notes name (subst (λ (b : Bool). cond b
      (done note (replayed start notes name)) (replayed start notes name) ≡ None) apart none))
]

spoilt_length : (kept fill : ℕ) (bytes : List ℕ) → length (spoilt_by kept fill bytes) ≡ length bytes
spoilt_length kept fill bytes =
    omega (
      arith,
      length-append (take kept bytes) (replicate (length bytes - kept) fill),
      length-take kept bytes,
      length-replicate {A = ℕ} (length bytes - kept) fill,
    )

short_spoilt : (kept fill n : ℕ) (bytes : List ℕ) → length (spoilt_by kept fill (take n bytes)) ≤ length bytes
short_spoilt kept fill n bytes = omega (arith, spoilt_length kept fill (take n bytes), length-take n bytes)

-- the simulated crash is one of the possible outcomes
left_holds : (kind : Kind) (kept fill : ℕ) (note : Note) (held : Option (List ℕ) → Type 0)
    (read file : Option (List ℕ)) → held file → (read ≡ None → file ≡ None)
    → HoldsBy kind note (done_by kind note read) held (left_by kind kept fill note read file)
left_holds Create kept fill note held read file was none = record {
  before = file;
  was = was;
  changed = elim (cases_Bool (kept == 0)) [
    | inl none_of ↦ rw none_of (inl refl)
    | inr some_of ↦ rw some_of (does_by Create note file)
  ];
  gone = λ gone. inl (none_by Create kept fill note read file gone (none (stands_by Create note read gone)));
}
left_holds Append kept fill note held read file was none = record {
  before = file;
  was = was;
  changed = of_file _ _ (λ old. torn_end note.at _ (spoilt_by kept fill (take note.part note.bytes)) old
      (short_spoilt kept fill note.part note.bytes)) file;
  gone = λ gone. inl (none_by Append kept fill note read file gone (none (stands_by Append note read gone)));
}
left_holds Write kept fill note held read file was none = record {
  before = file;
  was = was;
  changed = of_file _ _ (λ old. torn_range note.at _ (spoilt_by kept fill (take note.part note.bytes)) old
      (short_spoilt kept fill note.part note.bytes)) file;
  gone = λ gone. inl (none_by Write kept fill note read file gone (none (stands_by Write note read gone)));
}
left_holds Sync kept fill note held None file was none = none refl
left_holds Sync kept fill note held (Some read) file was none = refl

-- the files after the simulated crash are one of the possible outcomes
pub crash_held : (kept fill : ℕ) (start : Files) (notes : List Note) (name : List ℕ)
    → MayHold start notes name (crashed kept fill start notes name)
crash_held kept fill start [] name = refl
crash_held kept fill start (note ∷ notes) name = elim (cases_Bool (bytes_eq name note.name)) [
  | inl same ↦ rw same (left_holds note.kind kept fill note (MayHold start notes name) (replayed start notes name)
      (crashed kept fill start notes name) (crash_held kept fill start notes name)
      (none_left kept fill start notes name))
  | inr apart ↦ rw apart (crash_held kept fill start notes name)
]

-- every result that the step of a call allows is a possible outcome
all_by : (kind : Kind) (note : Note) (held : Option (List ℕ) → Type 0) (read before x : Option (List ℕ)) → kind ≢ Sync
    → held before → step_by kind note before x → (read ≡ None → IsEmptyOrAbsent x) → HoldsBy kind note read held x
all_by Create note held read before x apart was does gone = record {
  before = before;
  was = was;
  changed = does;
  gone = gone;
}
all_by Append note held read before x apart was does gone = record {
  before = before;
  was = was;
  changed = does;
  gone = gone;
}
all_by Write note held read before x apart was does gone = record {
  before = before;
  was = was;
  changed = does;
  gone = gone;
}
all_by Sync note held read before x apart was does gone = absurd (apart refl)

-- files changed by a step of the call are a possible outcome after the call
pub all_left : (note : Note) (history : History) → note.kind ≢ Sync → (d c : Files) → MayLeave history d
    → Changes (step note) note.name d c
    → (read_of (noted note history) note.name ≡ None → IsEmptyOrAbsent (c note.name))
    → MayLeave (noted note history) c
all_left note history other_kind d c left changes gone other = elim (cases_Bool (bytes_eq other note.name)) [
  | inl same ↦ subst (λ (n : List ℕ). MayHold history.start (note ∷ history.notes) n (c n))
      (sym ((bytes_eq-Decides other note.name).0 same))
      (subst (λ (b : Bool). HoldsIf b note (read_of (noted note history) note.name)
      (MayHold history.start history.notes note.name) (c note.name)) (sym (same_name note.name))
      (all_by note.kind note (MayHold history.start history.notes note.name) (read_of (noted note history) note.name)
      (d note.name) (c note.name) other_kind (left note.name) changes.here gone))
  | inr apart ↦ rw apart (subst (MayHold history.start history.notes other)
      (sym (changes.others other (λ is. differ is apart))) (left other))
]
  where
    differ : other ≡ note.name → bytes_eq other note.name ≡ false → ⊥
    differ is apart = let same : bytes_eq other note.name ≡ true = (bytes_eq-Decides other note.name).1 is in cc
