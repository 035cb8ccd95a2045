-- The text written for a project: lines end with CR LF, and one space separates tokens.
use Rattle.std.specs.Prelude.{ℕ, ◌-◌, ◌==◌, List, [], ◌∷◌, ◌++◌, length, replicate, Option, None, Some, if◌then◌else◌, flat_map, decimal, codes}
use Rattle.sampletime.specs.TimeCode.{text_of}
use Rattle.sound_terms.specs.declared.Channels.{Channels}
use Rattle.sound_terms.specs.declared.Event.{Event}
use Rattle.list_terms.specs.Project.{Source, ListProject}

-- A line with CR LF.
abbrev pub line : List ℕ → List ℕ
line text = text ++ (13 ∷ 10 ∷ [])

-- A number with at least four digits.
abbrev pub number_text : ℕ → List ℕ
number_text n = replicate (4 - length (decimal n)) 48 ++ decimal n

-- A time, or `_` if it is missing.
abbrev pub time_text : ListProject → Option ℕ → List ℕ
time_text project None = codes "_"
time_text project (Some time) = text_of project.rate time project.separators

-- Channels: `a~b`, or `n` for one channel.
abbrev pub channels_text : Channels → List ℕ
channels_text channels = if channels.first == channels.last then decimal channels.first
    else decimal channels.first ++ (codes "~" ++ decimal channels.last)

-- A section with these lines, if it exists.
abbrev pub section : List ℕ → Option (List (List ℕ)) → List ℕ
section name None = []
section name (Some lines) =
    line (codes "<" ++ (name ++ codes ">")) ++ (flat_map line lines ++ line (codes "</" ++ (name ++ codes ">")))

-- The line of a source.
abbrev pub source_line : ListProject → Source → List ℕ
source_line project source =
    codes "(Index) " ++ (number_text source.number
    ++ (codes " (F) \"" ++ (source.url
    ++ (codes "\" " ++ (source.uid
    ++ (codes " " ++ (time_text project source.start ++ (codes " " ++ time_text project source.length))))))))

-- The `(Entry)` line of an event.
abbrev pub event_line : ListProject → Event → List ℕ
event_line project event =
    codes "(Entry) " ++ (number_text event.number ++ (codes " (Cut) I " ++ (number_text event.index
    ++ (codes " " ++ (channels_text event.source ++ (codes " " ++ (channels_text event.dest
    ++ (codes " " ++ (time_text project (Some event.source_in) ++ (codes " " ++ (time_text project (Some event.dest_in)
    ++ (codes " " ++ time_text project (Some event.dest_out)))))))))))))

-- A fade longer than zero has a line of its own.
abbrev pub fade_lines : ListProject → List ℕ → ℕ → List (List ℕ)
fade_lines project keyword length =
    if length == 0 then [] else (keyword ++ (codes " " ++ (time_text project (Some length) ++ codes " LIN _ _ _"))) ∷ []

-- The lines of an event and its fades.
abbrev pub event_lines : ListProject → Event → List (List ℕ)
event_lines project event =
    event_line project event ∷ (fade_lines project (codes "(Infade)") event.rise.length
    ++ fade_lines project (codes "(Outfade)") event.fall.length)

-- The whole list, with its sections in a fixed order.
unfoldable pub text_of_project : ListProject → List ℕ
text_of_project project =
    line (codes "<ADL>") ++ (section (codes "VERSION") project.header.version
    ++ (section (codes "PROJECT") project.header.project
    ++ (section (codes "SYSTEM") project.header.system ++ (section (codes "SEQUENCE") project.header.sequence
    ++ (section (codes "TRACKLIST") project.header.track_list
    ++ (section (codes "SOURCE_INDEX") (Some (flat_map (λ source. source_line project source ∷ []) project.sources))
    ++ (section (codes "EVENT_LIST") (Some (flat_map (event_lines project) project.events))
    ++ line (codes "</ADL>"))))))))
