-- The history of files in memory, and the outcomes of a crash.
use Rattle.std.specs.Prelude.{◌≡◌, ◌⊎◌, ℕ, ◌+◌, ◌-◌, ◌≤◌, nat_le, Bool, true, false, ◌==◌, if◌then◌else◌, Option, Some, None, List, [], ◌∷◌, ◌++◌, length, take, drop, map, replicate, option_map, string_bytes}
use Rattle.std.specs.Str.{bytes_eq}
use Rattle.work_terms.specs.Disk.{Files, IsEmptyOrAbsent, IsPending, IsTorn, IsTornBehind}
use Rattle.shelf.specs.declared.memory.call.Call.{Call}
use Rattle.shelf.specs.declared.memory.call.Kind.{Kind}
use Rattle.shelf.specs.declared.memory.call.Kind.TheVariants.{Create, Append, Write, Sync}

-- A recorded call: its kind, file, offset and bytes, and the number of bytes it wrote. For a create, `part` is 0 if it
-- didn't create the file.
pub record Note : Type 0 where
  pub name : List ℕ
  pub kind : Kind
  pub at : ℕ
  pub bytes : List ℕ
  pub part : ℕ

-- the model of a recorded call
abbrev pub note_of : Call → Note
note_of call = record {
  name = string_bytes call.name;
  kind = call.kind;
  at = call.at;
  bytes = call.bytes.items;
  part = call.part;
}

-- the initial files and the calls since, newest first
pub record History : Type 0 where
  pub start : Files
  pub notes : List Note

-- the history of these initial files and recorded calls
abbrev pub history_by : Files → List Call → History
history_by start calls = record { start = start; notes = map note_of calls }

-- a history with one more call
abbrev pub noted : Note → History → History
noted note history = record { start = history.start; notes = note ∷ history.notes }

-- the bytes overwrite the file from offset `at` on, extending it if necessary
abbrev pub placed : ℕ → List ℕ → List ℕ → List ℕ
placed at bytes file = take at file ++ (bytes ++ drop (at + length bytes) file)

-- a call may write n bytes at offset `at` of a file of this size: an append not past the end, an overwrite only
-- inside
abbrev pub has_place : Kind → (at n size : ℕ) → Bool
has_place Create at n size = false
has_place Append at n size = nat_le at size
has_place Write at n size = nat_le (at + n) size
has_place Sync at n size = false

-- the file after writing these bytes of a call with n bytes, if there is room for the n
abbrev pub with_bytes : Kind → (at n : ℕ) → List ℕ → List ℕ → List ℕ
with_bytes kind at n bytes file = if has_place kind at n (length file) then placed at bytes file else file

-- contents read after the call
abbrev pub done_by : Kind → Note → Option (List ℕ) → Option (List ℕ)
done_by Create note file = if note.part == 0 then file else Some []
done_by Append note file = option_map (with_bytes Append note.at (length note.bytes) (take note.part note.bytes)) file
done_by Write note file = option_map (with_bytes Write note.at (length note.bytes) (take note.part note.bytes)) file
done_by Sync note file = file

-- contents read after the call, by its own kind
abbrev pub done : Note → Option (List ℕ) → Option (List ℕ)
done note = done_by note.kind note

-- contents read after all calls
abbrev pub replayed : Files → List Note → Files
replayed start [] name = start name
replayed start (note ∷ notes) name =
    if bytes_eq name note.name then done note (replayed start notes name) else replayed start notes name

-- contents read of the files now
abbrev pub read_of : History → Files
read_of history = replayed history.start history.notes

-- possible effects of the call on the file before the next sync; a sync changes nothing
abbrev pub step_by : Kind → Note → Option (List ℕ) → Option (List ℕ) → Type 0
step_by Create note = IsPending
step_by Append note = IsTornBehind note.at (length note.bytes)
step_by Write note = IsTorn note.at (length note.bytes)
step_by Sync note = λ old new. new ≡ old

-- possible effects of the call, by its own kind
abbrev pub step : Note → Option (List ℕ) → Option (List ℕ) → Type 0
step note = step_by note.kind note

-- an older outcome changed by this step; if reads find no file, none is left or an empty one
pub record IsPast (change : Option (List ℕ) → Option (List ℕ) → Type 0) (read : Option (List ℕ))
    (held : Option (List ℕ) → Type 0) (x : Option (List ℕ)) : Type 0 where
  pub before : Option (List ℕ)
  pub was : held before
  pub changed : change before x
  pub gone : read ≡ None → IsEmptyOrAbsent x

-- outcomes after a call on this file; after a sync only the contents that are read
abbrev pub HoldsBy : Kind → Note → Option (List ℕ) → (Option (List ℕ) → Type 0) → Option (List ℕ) → Type 0
HoldsBy Create note read held x = IsPast (step_by Create note) read held x
HoldsBy Append note read held x = IsPast (step_by Append note) read held x
HoldsBy Write note read held x = IsPast (step_by Write note) read held x
HoldsBy Sync note read held x = x ≡ read

-- outcomes for a file after a call, which may be on another file
abbrev pub HoldsIf : Bool → Note → Option (List ℕ) → (Option (List ℕ) → Type 0) → Option (List ℕ) → Type 0
HoldsIf true note read held x = HoldsBy note.kind note read held x
HoldsIf false note read held x = held x

-- outcomes of a crash for one file
abbrev pub MayHold : Files → List Note → List ℕ → Option (List ℕ) → Type 0
MayHold start [] name x = x ≡ start name
MayHold start (note ∷ notes) name x =
    HoldsIf (bytes_eq name note.name) note (replayed start (note ∷ notes) name) (MayHold start notes name) x

-- outcomes of a crash: any combination of the outcomes of each file
abbrev pub MayLeave : History → Files → Type 0
MayLeave history c = (name : List ℕ) → MayHold history.start history.notes name (c name)

-- outcomes of a crash at some moment from t on
abbrev pub LeftSince : Files → List Note → ℕ → Files → Type 0
LeftSince start [] t c = MayLeave (record { start = start; notes = [] }) c
LeftSince start (note ∷ notes) t c =
    MayLeave (record { start = start; notes = note ∷ notes }) c ⊎ ((t ≤ length notes) × LeftSince start notes t c)

-- the bytes with all after the first `kept` replaced by `fill`
abbrev pub spoilt_by : (kept fill : ℕ) → List ℕ → List ℕ
spoilt_by kept fill bytes = take kept bytes ++ replicate (length bytes - kept) fill

-- the first file if it exists, otherwise the second
abbrev pub or_else : Option (List ℕ) → Option (List ℕ) → Option (List ℕ)
or_else None other = other
or_else (Some file) other = Some file

-- Contents after the simulated crash, derived from those that it leaves without the call. The call leaves its first
-- `kept` bytes as written and `fill` in place of the others. A create has no effect if `kept` is 0. After a sync the
-- file is as it was read.
abbrev pub left_by : Kind → (kept fill : ℕ) → Note → (read : Option (List ℕ)) → Option (List ℕ) → Option (List ℕ)
left_by Create kept fill note read file = if kept == 0 then file else done_by Create note file
left_by Append kept fill note read file =
    option_map (with_bytes Append note.at (length note.bytes) (spoilt_by kept fill (take note.part note.bytes))) file
left_by Write kept fill note read file =
    option_map (with_bytes Write note.at (length note.bytes) (spoilt_by kept fill (take note.part note.bytes))) file
left_by Sync kept fill note read file = or_else read file

-- contents after the simulated crash, by the kind of the call
abbrev pub left_of : (kept fill : ℕ) → Note → (read : Option (List ℕ)) → Option (List ℕ) → Option (List ℕ)
left_of kept fill note = left_by note.kind kept fill note

-- files after the simulated crash
abbrev pub crashed : (kept fill : ℕ) → Files → List Note → Files
crashed kept fill start [] name = start name
crashed kept fill start (note ∷ notes) name =
    if bytes_eq name note.name then left_of kept fill note (replayed start notes name) (crashed kept fill start notes name)
    else crashed kept fill start notes name
