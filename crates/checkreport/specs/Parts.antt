-- The parts of a printed report.
use Rattle.std.specs.Prelude.{ℕ, List, [], ◌∷◌, ◌++◌, Bool, false, true, Option, map, option_map, string_bytes, codes}
use Rattle.std.specs.List.{flat_map}
use Rattle.serde_json.specs.Data.{Data, boolean}
use Rattle.serde_json.specs.View.{items_of}
use Rattle.serde_json.specs.Written.{comma_if}
use Rattle.checkreport.specs.Printed.{printed_items, printed_text}
use Rattle.sound_terms.specs.declared.BoundIndex.{BoundIndex}
use Rattle.sound_terms.specs.Sounds.{SoundFacts}
use Rattle.list_terms.specs.declared.Notice.{Notice}
use Rattle.console.specs.Lines.{counted}
use Rattle.json.specs.Print.{quoted}
use Rattle.checkreport.specs.Explained.{explained_data, value_data}
use Rattle.report_terms.specs.Report.{form, notice_data}
use Rattle.checkreport.specs.Report.{Beside, ExplainedFault, explained_fault, fault_of, index_data, passed_data, room_data, text_in}
use Rattle.checkreport.specs.declared.explained.Member.{Member}
use Rattle.checkreport.specs.declared.explained.PassedLine.{PassedLine}
use Rattle.checkreport.specs.declared.explained.Room.{Room}
use Rattle.checkreport.specs.declared.refused.ReportedFault.{ReportedFault}

-- texts of values, each after a comma
abbrev pub after_commas : {X : Type 0} → (X → List ℕ) → List X → List ℕ
after_commas text xs = flat_map (λ x. 44 ∷ text x) xs

-- values separated by commas; the flag says whether others precede them
abbrev pub listed : (is_later : Bool) → List Data → List ℕ
listed is_later [] = []
listed is_later (value ∷ values) = comma_if is_later ++ (printed_text value ++ listed true values)

-- texts of a notice, an index and a fault
unfoldable pub notice_text : Notice → List ℕ
notice_text notice = printed_text (notice_data notice)

unfoldable pub index_text : List SoundFacts → List Notice → BoundIndex → List ℕ
index_text sounds notices index = printed_text (index_data sounds notices index)

unfoldable pub fault_text : ExplainedFault → List ℕ
fault_text fault = printed_text (explained_fault fault)

-- text of a member of an object
unfoldable pub member_text : Member → List ℕ
member_text member = quoted member.name.now ++ 58 ∷ printed_text (value_data member.value)

-- text of a line that isn't fully honoured
unfoldable pub passed_text : PassedLine → List ℕ
passed_text passed = printed_text (passed_data passed)

-- text of the maximum size of the outputs
unfoldable pub room_text : Room → List ℕ
room_text room = printed_text (room_data room)

-- the supplements to a project, up to the end of the array
unfoldable pub beside_text : Beside → List ℕ
beside_text beside = codes ",\"media_error\":" ++ (printed_text (text_in beside.media_error)
    ++ (codes ",\"most_bytes\":" ++ (room_text beside.room
    ++ (codes ",\"not_honoured\":[" ++ printed_items false (items_of (map passed_data beside.passed))))))

-- a prepared fault
abbrev pub ready_data : ReportedFault → Data
ready_data fault =
    fault_of fault.entry (explained_data fault.explained) (text_in (option_map string_bytes fault.file)) fault.index
    fault.line fault.number

-- the report of a refused list up to the last of these faults, and the rest of it
unfoldable pub refused_front : ExplainedFault → List ExplainedFault → List ℕ
refused_front first further =
    codes "{\"accepted\":false,\"faults\":[" ++ (fault_text first ++ after_commas fault_text further)

-- the rest of the report of a refused list, after its faults
unfoldable pub refused_end : Option (List ℕ) → Bool → List ℕ
refused_end media_error are_all =
    counted (codes "],\"form\":") form ++ (codes ",\"media_error\":" ++ (printed_text (text_in media_error)
    ++ (codes ",\"complete\":" ++ (printed_text (boolean are_all) ++ codes "}"))))
