-- Effect of each call on the files of an in-memory bench.
use Rattle.std.proofs.Common.{◌≡◌, ◌≢◌, ◌∙◌, ℕ, ◌+◌, ◌≤◌, Bool, if◌then◌else◌, Option, Some, None, List, [], ◌++◌, length, take, drop, IsSomeAnd, option_map, refl, sym, ap, subst, inl, inr, arith}
use Rattle.std.proofs.lemmas.Bool.{le-leb}
use Rattle.std.proofs.lemmas.Option.{none-some}
use Rattle.std.proofs.lemmas.List.{append-nil, drop_all, length-take, take_all}
use Rattle.std.specs.Prelude.{true, ⊤}
use Rattle.work_terms.specs.Disk.{Changes, Files, Follows, HasCause, HasWritten, IsAppended, IsGrown, IsTornBehind, IsWritten, end_of}
use Rattle.shelf.specs.declared.memory.bench.MemoryBench.{MemoryBench}
use Rattle.shelf.specs.declared.memory.call.Kind.TheVariants.{Append, Write, Sync}
use Rattle.shelf.specs.History.{Note, History, noted, placed, with_bytes, done, read_of, step, MayLeave}
use Rattle.shelf.specs.Memory.{bench_failures, bench_files, bench_history}
use Rattle.shelf.specs.Crashes.{IsChange, HasSynced, changes_noted, does_by, has_changed, has_synced, stays_by}

-- a file with a length exists
pub found : (file : Option (List ℕ)) (at : ℕ) → Some at ≡ option_map (λ bytes. length bytes) file
    → (bytes : List ℕ) × (file ≡ Some bytes) × (at ≡ length bytes)
found None at some = absurd (none-some at (sym some))
found (Some bytes) at some = (bytes, refl, same at (length bytes) some)
  where
    same : (a b : ℕ) → Some a ≡ Some b → a ≡ b
    same a b e = cc

-- a file that contains a range exists
pub held : (file : Option (List ℕ)) (end : ℕ) → IsSomeAnd file (λ bytes. end ≤ length bytes)
    → (bytes : List ℕ) × (file ≡ Some bytes) × (end ≤ length bytes)
held None end inside = absurd inside
held (Some bytes) end inside = (bytes, refl, inside)

-- an append at the end of the file
with_end : (at n : ℕ) (bytes file : List ℕ) → at ≡ length file → with_bytes Append at n bytes file ≡ file ++ bytes
with_end at n bytes file end =
    ap (λ (b : Bool). if b then placed at bytes file else file) (le-leb at (length file) (omega (arith, end)))
    ∙ ap (λ (l : List ℕ). l ++ (bytes ++ drop (at + length bytes) file)) (take_all at file (omega (arith, end)))
    ∙ ap (λ (l : List ℕ). file ++ (bytes ++ l)) (drop_all (at + length bytes) file (omega (arith, end)))
    ∙ ap (λ (l : List ℕ). file ++ l) (append-nil bytes)

-- contents of the file after a recorded call
made : (note : Note) (old new : History) (file : Option (List ℕ)) → new ≡ noted note old → read_of old note.name ≡ file
    → read_of new note.name ≡ done note file
made note old new file is there =
    ap (λ (h : History). read_of h note.name) is ∙ (changes_noted note old.start old.notes).here ∙ ap (done note) there

others : (note : Note) (old new : History) → IsChange note old new → (n : List ℕ) → n ≢ note.name
    → read_of new n ≡ read_of old n
others note old new change = (has_changed note old new change).others

-- the contents read after a call are allowed by its step
pub steps : (note : Note) (old new : History) → IsChange note old new
    → Changes (step note) note.name (read_of old) (read_of new)
steps note old new change = record { here = here change; others = others note old new change }
  where
    here : IsChange note old new → step note (read_of old note.name) (read_of new note.name)
    here (inl same) = subst (λ (h : History). step note (read_of old note.name) (read_of h note.name)) (sym same)
        (stays_by note.kind note (read_of old note.name))
    here (inr more) = subst (λ (x : Option (List ℕ)). step note (read_of old note.name) x)
        (sym (made note old new (read_of old note.name) more refl))
        (does_by note.kind note (read_of old note.name))

-- a call on a bench writes only to the file it names, whatever its result
pub only_writes : (note : Note) (old new : MemoryBench) {quiet device failed : Type 0}
    → IsChange note (bench_history old) (bench_history new)
    → HasCause (bench_failures old) (bench_failures new) quiet device → failed
    → HasWritten bench_files (λ _. true) bench_failures (λ _ _. ⊤) (λ bench. MayLeave (bench_history bench))
    (λ n. n ≢ note.name) old new quiet device failed
only_writes note old new change cause failed =
    let changed = has_changed note (bench_history old) (bench_history new) change in record {
      others = λ honest. changed.others;
      durable = λ honest. changed.durable;
      honest_same = refl;
      cause = cause;
      keeps = λ n was. was;
      failed_there = failed;
    }

module _ (name bytes : List ℕ) (at : ℕ) (old new : History)
    (there : Some at ≡ option_map (λ (file : List ℕ). length file) (read_of old name)) where
  -- an append that wrote `part` bytes
  abbrev pub note_by : ℕ → Note
  note_by part = record { name = name; kind = Append; at = at; bytes = bytes; part = part }

  pub append_follows : (part : ℕ) → IsChange (note_by part) old new
      → Follows (Changes (IsTornBehind (end_of (read_of old name)) (length bytes)) name) (MayLeave old) (MayLeave new)
  append_follows part change =
      let file = found (read_of old name) at there in
      let end : at ≡ end_of (read_of old name) = file.2 ∙ sym (ap end_of file.1) in
      subst (λ (k : ℕ). Follows (Changes (IsTornBehind k (length bytes)) name) (MayLeave old) (MayLeave new)) end
      (has_changed (note_by part) old new change).crash

  pub appended : new ≡ noted (note_by (length bytes)) old
      → Changes (IsAppended bytes) name (read_of old) (read_of new)
  appended is =
      let file = found (read_of old name) at there in record {
        here = record {
          file = file.0;
          there = file.1;
          appended = made (note_by (length bytes)) old new (Some file.0) is file.1
              ∙ ap (λ (l : List ℕ). Some l) (with_end at (length bytes) (take (length bytes) bytes) file.0 file.2
              ∙ ap (λ (l : List ℕ). file.0 ++ l) (take_all (length bytes) bytes (omega arith)));
        };
        others = others (note_by (length bytes)) old new (inr is);
      }

  pub grown : (part : ℕ) → IsChange (note_by part) old new
      → Changes (IsGrown (length bytes)) name (read_of old) (read_of new)
  grown part change = record { here = here change; others = others (note_by part) old new change }
    where
      here : IsChange (note_by part) old new → IsGrown (length bytes) (read_of old name) (read_of new name)
      here (inl same) =
          let file = found (read_of old name) at there in
          let none : 0 ≤ length bytes = omega arith in
          subst (λ (x : Option (List ℕ)). IsGrown (length bytes) x (read_of new name)) (sym file.1)
          (file.0, ap (λ (h : History). read_of h name) same ∙ file.1, ([], none, sym (append-nil file.0)))
      here (inr more) =
          let file = found (read_of old name) at there in
          let few : length (take part bytes) ≤ length bytes = omega (arith, length-take part bytes) in
          subst (λ (x : Option (List ℕ)). IsGrown (length bytes) x (read_of new name)) (sym file.1) (
            file.0 ++ take part bytes,
            made (note_by part) old new (Some file.0) more file.1
                ∙ ap (λ (l : List ℕ). Some l) (with_end at (length bytes) (take part bytes) file.0 file.2),
            (take part bytes, few, refl),
          )

module _ (name bytes : List ℕ) (at : ℕ) (old new : History)
    (inside : IsSomeAnd (read_of old name) (λ file. at + length bytes ≤ length file)) where
  pub written : new ≡ noted (record { name = name; kind = Write; at = at; bytes = bytes; part = length bytes }) old
      → Changes (IsWritten at bytes) name (read_of old) (read_of new)
  written is =
      let note : Note = record { name = name; kind = Write; at = at; bytes = bytes; part = length bytes } in
      let file = held (read_of old name) (at + length bytes) inside in
      let whole : take (length bytes) bytes ≡ bytes = take_all (length bytes) bytes (omega arith) in record {
        here = record {
          file = file.0;
          there = file.1;
          inside = file.2;
          written = made note old new (Some file.0) is file.1
              ∙ ap (λ (l : List ℕ). Some l) (ap (λ (l : List ℕ). with_bytes Write at (length bytes) l file.0) whole
              ∙ ap (λ (b : Bool). if b then placed at bytes file.0 else file.0)
              (le-leb (at + length bytes) (length file.0) file.2));
        };
        others = others note old new (inr is);
      }

-- a sync of the file
abbrev pub sync_of : List ℕ → Note
sync_of name = record { name = name; kind = Sync; at = 0; bytes = []; part = 0 }

pub synced : (name : List ℕ) (old mid new : History) → mid ≡ old → new ≡ noted (sync_of name) mid → HasSynced name old new
synced name old mid new same is =
    subst (HasSynced name old) (sym is)
    (subst (λ (h : History). HasSynced name old (noted (sync_of name) h)) (sym same) (has_synced (sync_of name) old refl))

-- a sync leaves no new outcome, whether it was recorded or not
pub sync_leaves : (name : List ℕ) (old mid new : History) → mid ≡ old → IsChange (sync_of name) mid new
    → (c : Files) → MayLeave new c → MayLeave old c
sync_leaves name old mid new same (inl none) c left = subst (λ (h : History). MayLeave h c) (none ∙ same) left
sync_leaves name old mid new same (inr is) c left = (synced name old mid new same is).crash c left
