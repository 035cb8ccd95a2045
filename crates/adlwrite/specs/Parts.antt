-- The parts of a written list, in order.
use Rattle.std.specs.Prelude.{ℕ, ◌==◌, List, [], ◌++◌, Option, None, Some, if◌then◌else◌, codes, flat_map}
use Rattle.sound_terms.specs.declared.Channels.{Channels}
use Rattle.sound_terms.specs.declared.Event.{Event}
use Rattle.list_terms.specs.Project.{Header, ListProject, Source}
use Rattle.list_terms.specs.WrittenText.{channels_text, line, number_text, time_text}
use Rattle.adlwrite.specs.declared.parts.Part.{Part}
use Rattle.adlwrite.specs.declared.parts.Part.TheVariants.{Fade, Number, Plain, Run, Time}

-- A space and a run of channels.
unfoldable pub channels_behind : Channels → List ℕ
channels_behind channels = codes " " ++ channels_text channels

-- The number of a source.
unfoldable pub index_text : Source → List ℕ
index_text source = codes "(Index) " ++ number_text source.number

-- The URL and the identifier of a source.
unfoldable pub file_text : Source → List ℕ
file_text source = codes " (F) \"" ++ (source.url ++ (codes "\" " ++ source.uid))

-- The times of a source, and the end of its line.
unfoldable pub source_times : ListProject → Source → List ℕ
source_times project source =
    codes " " ++ (time_text project source.start ++ (codes " " ++ (time_text project source.length ++ codes "\r\n")))

-- The line of a source.
unfoldable pub source_text : ListProject → Source → List ℕ
source_text project source =
    index_text source ++ (file_text source ++ source_times project source)

-- The numbers of an entry.
unfoldable pub entry_numbers : Event → List ℕ
entry_numbers event =
    codes "(Entry) " ++ (number_text event.number ++ (codes " (Cut) I " ++ number_text event.index))

-- The times of an entry, and the end of its line.
unfoldable pub entry_times : ListProject → Event → List ℕ
entry_times project event =
    codes " " ++ (time_text project (Some event.source_in) ++ (codes " " ++ (time_text project (Some event.dest_in)
    ++ (codes " " ++ (time_text project (Some event.dest_out) ++ codes "\r\n")))))

-- The `(Entry)` line of an event.
unfoldable pub entry_text : ListProject → Event → List ℕ
entry_text project event =
    entry_numbers event ++ (channels_behind event.source ++ (channels_behind event.dest ++ entry_times project event))

-- The rest of a fade's line after its keyword.
unfoldable pub curve_text : ListProject → ℕ → List ℕ
curve_text project length = time_text project (Some length) ++ codes " LIN _ _ _\r\n"

-- The line of a fade.
unfoldable pub fade_line : ListProject → List ℕ → ℕ → List ℕ
fade_line project keyword length = keyword ++ curve_text project length

-- The line of a fade, or nothing if its length is zero.
unfoldable pub fade_text : ListProject → List ℕ → ℕ → List ℕ
fade_text project keyword length = if length == 0 then [] else fade_line project keyword length

-- A part of a line: text, a number, a run of channels, a time, or the line of a fade.
abbrev pub part_text : ListProject → Part → List ℕ
part_text project (Plain text) = text.now
part_text project (Number number) = number_text number
part_text project (Run channels) = channels_behind channels
part_text project (Time time) = time_text project time
part_text project (Fade keyword length) = fade_text project keyword.now length

-- The lines of an event and its fades.
unfoldable pub event_text : ListProject → Event → List ℕ
event_text project event =
    entry_text project event ++ (fade_text project (codes "(Infade) ") event.rise.length
    ++ fade_text project (codes "(Outfade) ") event.fall.length)

-- The line that opens a section.
unfoldable pub opening_text : List ℕ → List ℕ
opening_text name = codes "<" ++ (name ++ codes ">\r\n")

-- The line that closes a section.
unfoldable pub ending_text : List ℕ → List ℕ
ending_text name = codes "</" ++ (name ++ codes ">\r\n")

-- A section with these lines.
unfoldable pub section_text : (name lines : List ℕ) → List ℕ
section_text name lines = opening_text name ++ (lines ++ ending_text name)

-- A header section, if it exists.
unfoldable pub header_text : List ℕ → Option (List (List ℕ)) → List ℕ
header_text name None = []
header_text name (Some lines) = section_text name (flat_map line lines)

-- The header sections.
unfoldable pub head_text : Header → List ℕ
head_text header =
    header_text (codes "VERSION") header.version ++ (header_text (codes "PROJECT") header.project
    ++ (header_text (codes "SYSTEM") header.system ++ (header_text (codes "SEQUENCE") header.sequence
    ++ header_text (codes "TRACKLIST") header.track_list)))

-- The whole list, with the frame rate and the separators of the project.
unfoldable pub list_text : ListProject → Header → List Source → List Event → List ℕ
list_text project header sources events =
    codes "<ADL>\r\n" ++ (head_text header
    ++ (section_text (codes "SOURCE_INDEX") (flat_map (source_text project) sources)
    ++ (section_text (codes "EVENT_LIST") (flat_map (event_text project) events) ++ codes "</ADL>\r\n")))
