-- The report of a check as a JSON value (RFC 8259).
use Rattle.std.specs.Prelude.{ℕ, ◌==◌, ◌&&◌, nat_lt, Bool, true, false, List, [], ◌∷◌, ◌++◌, map, length, Option, None, Some, slice_get, unwrap_or, option_map, string_bytes, if◌then◌else◌, codes}
use Rattle.std.specs.List.{flat_map}
use Rattle.serde_json.specs.Data.{Data, null, boolean, string, array, object, member, no_members}
use Rattle.serde_json.specs.View.{items_of}
use Rattle.sound_terms.specs.declared.BoundIndex.{BoundIndex}
use Rattle.sound_terms.specs.Depth.{bits_of}
use Rattle.sound_terms.specs.Sounds.{SoundFacts}
use Rattle.list_terms.specs.declared.Notice.{Notice}
use Rattle.list_terms.specs.Project.{ListProject}
use Rattle.list_terms.specs.Binding.{Binding}
use Rattle.list_terms.specs.Heard.{sounds_of}
use Rattle.work_terms.specs.Refusals as refused
use Rattle.work_terms.specs.Refusals.{Refusal, Where}
use Rattle.opening.specs.Faults.{refusal_of}
use Rattle.opening.specs.declared.fault.Fault.{Fault}
use Rattle.report_terms.specs.Report.{count, form, notice_data}
use Rattle.checkreport.specs.declared.explained.PassedLine.{PassedLine}
use Rattle.checkreport.specs.declared.explained.Room.{Room}

-- numbers of the notices of an index
abbrev pub is_of_index : ℕ → Notice → Bool
is_of_index index notice = nat_lt 2 notice.kind && notice.at == index

-- the number of a notice if it belongs to the index
abbrev pub kind_at : ℕ → Notice → List Data
kind_at index notice = if is_of_index index notice then count notice.kind ∷ [] else []

-- numbers of the notices of an index
abbrev pub kinds_of : ℕ → List Notice → List Data
kinds_of index notices = flat_map (kind_at index) notices

-- an index with this file
abbrev pub index_of_file : List Notice → BoundIndex → SoundFacts → Data
index_of_file notices index facts =
    object (member (codes "base") (count index.base)
    (member (codes "channels") (count facts.channels)
    (member (codes "depth") (count (bits_of facts.depth))
    (member (codes "file") (string facts.name)
    (member (codes "frames") (count facts.frames)
    (member (codes "index") (count index.number)
    (member (codes "notices") (array (items_of (kinds_of index.number notices))) no_members)))))))

-- an index, or null if its file is not among the opened ones
abbrev pub index_data : List SoundFacts → List Notice → BoundIndex → Data
index_data sounds notices index =
    unwrap_or (option_map (index_of_file notices index) (slice_get sounds index.file)) null

-- a text, or null
abbrev pub text_in : Option (List ℕ) → Data
text_in text = unwrap_or (option_map string text) null

-- a number, or null
abbrev pub count_in : Option ℕ → Data
count_in found = unwrap_or (option_map count found) null

-- a line that isn't fully honoured
abbrev pub passed_data : PassedLine → Data
passed_data passed =
    object (member (codes "line") (count passed.line)
    (member (codes "words") (text_in (option_map string_bytes passed.words)) no_members))

-- upper bounds in bytes for the files of a consolidation and for a rendering, or null if unknown
abbrev pub room_data : Room → Data
room_data room =
    object (member (codes "media") (count_in room.media)
    (member (codes "rendering") (count_in room.rendering) no_members))

-- supplements to an accepted project: why its media folder can't be listed, if it can't, the maximum size of its
-- outputs, and the lines that aren't fully honoured
pub record Beside : Type 0 where
  pub media_error : Option (List ℕ)
  pub room : Room
  pub passed : List PassedLine

-- report of an accepted list from its parts
abbrev pub accepted_of : (rate entries : ℕ) (indexes : List Data) (media_error room : Data)
    (passed notices : List Data) → Data
accepted_of rate entries indexes media_error room passed notices =
    object (member (codes "accepted") (boolean true)
    (member (codes "entry_count") (count entries)
    (member (codes "form") (count form)
    (member (codes "indexes") (array (items_of indexes))
    (member (codes "media_error") media_error
    (member (codes "most_bytes") room
    (member (codes "not_honoured") (array (items_of passed))
    (member (codes "notices") (array (items_of notices))
    (member (codes "rate") (count rate) no_members)))))))))

-- report of an accepted project
abbrev pub accepted_data : ListProject → Binding → Beside → Data
accepted_data project binding beside = accepted_of project.rate (length project.events)
    (map (index_data (sounds_of binding) binding.notices) binding.indexes)
    (text_in beside.media_error) (room_data beside.room) (map passed_data beside.passed)
    (map notice_data (project.notices ++ binding.notices))

-- line number of a location, if it has one
abbrev pub line_in : Where → Option ℕ
line_in (refused.Line line) = Some line
line_in (refused.LineEntry line entry) = Some line
line_in (refused.LineIndex line index) = Some line
line_in place = None

-- number of the entry of a location, if it has one
abbrev pub entry_in : Where → Option ℕ
entry_in (refused.LineEntry line entry) = Some entry
entry_in (refused.Entry entry) = Some entry
entry_in place = None

-- number of the index of a location, if it has one
abbrev pub index_in : Where → Option ℕ
index_in (refused.LineIndex line index) = Some index
index_in (refused.IndexFile index name) = Some index
index_in (refused.Index index) = Some index
index_in place = None

-- name of the file of a location, or null
abbrev pub file_in : Where → Data
file_in (refused.IndexFile index name) = string name
file_in (refused.File name) = string name
file_in place = null

-- a fault from the parts of its location, its explanation and its number
abbrev pub fault_of : (entry : Option ℕ) (explained file : Data) (index line : Option ℕ) (refusal : ℕ) → Data
fault_of entry explained file index line refusal =
    object (member (codes "entry") (count_in entry)
    (member (codes "explained") explained
    (member (codes "file") file
    (member (codes "index") (count_in index)
    (member (codes "line") (count_in line)
    (member (codes "refused") (count refusal) no_members))))))

-- a fault with its explanation
abbrev pub fault_data : Refusal → Data → Data
fault_data refusal explained =
    fault_of (entry_in refusal.location) explained (file_in refusal.location) (index_in refusal.location) (line_in refusal.location)
    refusal.number

-- a fault and its explanation
pub record ExplainedFault : Type 0 where
  pub fault : Fault
  pub explained : Data

-- a fault with its own explanation
abbrev pub explained_fault : ExplainedFault → Data
explained_fault told = fault_data (refusal_of told.fault) told.explained

-- faults without their explanations
abbrev pub faults_of : List ExplainedFault → List Fault
faults_of reported = map (λ one. one.fault) reported

-- report of a refused list: its faults, why its media folder can't be listed, if it can't, and whether the faults are
-- all
abbrev pub refused_of : (faults : List Data) (media_error : Data) (are_all : Bool) → Data
refused_of faults media_error are_all =
    object (member (codes "accepted") (boolean false)
    (member (codes "faults") (array (items_of faults))
    (member (codes "form") (count form)
    (member (codes "media_error") media_error
    (member (codes "complete") (boolean are_all) no_members)))))

-- report of a refused list from its first and its further faults
abbrev pub refused_data : ExplainedFault → List ExplainedFault → Option (List ℕ) → Bool → Data
refused_data first further media_error are_all =
    refused_of (map explained_fault (first ∷ further)) (text_in media_error) are_all

-- report of a list that can't be read, or of out of memory
abbrev pub unread_data : ℕ → (place : Where) (explained : Data) → Data
unread_data which place explained =
    refused_of (fault_data (record { number = which; location = place; late = false }) explained ∷ []) null false
