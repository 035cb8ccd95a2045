-- The report of a consolidation, as a JSON value (RFC 8259).
use Rattle.std.specs.Prelude.{◌≡◌, ℕ, ◌+◌, List, [], ◌∷◌, ◌++◌, map, Option, option_and_then, option_map, slice_get, unwrap_or, if◌then◌else◌, codes}
use Rattle.std.specs.Str.{is_utf8}
use Rattle.hex.specs.Hex.{encode_lower}
use Rattle.serde_json.specs.Data.{Data, null, string, array, object, member, no_members}
use Rattle.serde_json.specs.View.{items_of}
use Rattle.serde_json.specs.Written.{compact_text}
use Rattle.sha2.specs.Sha256.{sha256}
use Rattle.adlmodel.specs.Numbered.{source_of}
use Rattle.sound_terms.specs.declared.BoundIndex.{BoundIndex}
use Rattle.sound_terms.specs.declared.piece.Home.{Home}
use Rattle.sound_terms.specs.Depth.{bits_of}
use Rattle.sound_terms.specs.Homes.{base_by, place_by}
use Rattle.sound_terms.specs.Media.{sound_at}
use Rattle.sound_terms.specs.Sounds.{SoundFacts}
use Rattle.sound_terms.specs.declared.Event.{Event}
use Rattle.work_terms.specs.Disk.{Files}
use Rattle.list_terms.specs.Binding.{Binding}
use Rattle.list_terms.specs.Heard.{sounds_of}
use Rattle.list_terms.specs.Project.{ListProject, Source}
use Rattle.list_terms.specs.Renewed.{media_name}
use Rattle.mediaset.specs.Runs.{HomedRuns}
use Rattle.lineage.specs.declared.shared.GroupedEntry.{GroupedEntry}
use Rattle.lineage.specs.declared.played.Played.{Played}
use Rattle.provenance.specs.declared.report.Report.{Report}
use Rattle.digests.specs.declared.medium.Medium.{Medium}
use Rattle.report_terms.specs.Report.{count, form, notice_data}
use Rattle.provenance.specs.Asked.{AskedReport}
use Rattle.digests.specs.Media.{media_of}
use Rattle.lineage.specs.Groups.{Shown, grouped_in, groups_of}
use Rattle.lineage.specs.Played.{given_entries, new_entries}
use Rattle.digests.specs.Sums.{sums_of}

-- the bytes as a string if they are UTF-8, otherwise null
abbrev pub text_data : List ℕ → Data
text_data bytes = if is_utf8 bytes then string bytes else null

-- a digest as 64 hexadecimal digits
abbrev pub digest_data : List ℕ → Data
digest_data digest = string (encode_lower digest)

-- an optional digest, or null
abbrev pub known_digest : Option (List ℕ) → Data
known_digest digest = unwrap_or (option_map digest_data digest) null

-- the line of the source index for the home index of a file
abbrev pub home_source : List Source → List BoundIndex → List Home → ℕ → Option Source
home_source sources indexes homes file =
    option_and_then (λ index. source_of sources index.number)
    (slice_get indexes (place_by homes file))

-- a value made from a line of the source index, or null if there is no line
abbrev pub told : (Source → Data) → Option Source → Data
told tell source = unwrap_or (option_map tell source) null

-- the origin of a medium: a file, the first sample of it, the line of the source index, and the digest of the whole
-- file
abbrev pub origin_data : SoundFacts → ℕ → Option Source → Option (List ℕ) → Data
origin_data facts first source digest =
    object (member (codes "file") (string facts.name)
    (member (codes "first") (count first)
    (member (codes "identifier") (told (λ s. text_data s.uid) source)
    (member (codes "index") (told (λ s. count s.number) source)
    (member (codes "sha256") (known_digest digest)
    (member (codes "url") (told (λ s. text_data s.url) source) no_members))))))

-- a medium of an open file, with its origin; the first sample of the medium is at time `base`
abbrev pub medium_data : SoundFacts → (base : ℕ) → Data → Medium → Data
medium_data facts base origin medium =
    object (member (codes "base") (count base)
    (member (codes "channels") (count facts.channels)
    (member (codes "depth") (count (bits_of facts.depth))
    (member (codes "file") (string (media_name medium.number))
    (member (codes "frames") (count medium.run.length)
    (member (codes "sha256") (digest_data medium.digest)
    (member (codes "source") origin no_members)))))))

-- a medium with its origin, from the line of the source index for the home index of its file
abbrev pub medium_told : List Source → List BoundIndex → List SoundFacts → List Home → Medium → Data
medium_told sources indexes sounds homes medium =
    let file = medium.run.file in
    medium_data (sound_at sounds file) (base_by homes file + medium.run.first)
    (origin_data (sound_at sounds file) medium.run.first (home_source sources indexes homes file) medium.source) medium

-- a group of input entries
abbrev pub group_data : Shown → Data
group_data group =
    object (member (codes "given") (array (items_of (map count group.0)))
    (member (codes "more") (count group.1) no_members))

-- a new entry with the number of its group
abbrev pub entry_data : GroupedEntry → Data
entry_data entry =
    object (member (codes "entry") (count entry.number) (member (codes "group") (count entry.group) no_members))

-- the report from its parts, with the digests of both lists in hexadecimal
abbrev pub consolidation_data : (handle : ℕ) (program version given new : List ℕ)
    (media groups entries notices : List Data) → Data
consolidation_data handle program version given new media groups entries notices =
    object (member (codes "entries") (array (items_of entries))
    (member (codes "form") (count form)
    (member (codes "given_list_sha256") (string given)
    (member (codes "groups") (array (items_of groups))
    (member (codes "handle") (count handle)
    (member (codes "media") (array (items_of media))
    (member (codes "new_list_sha256") (string new)
    (member (codes "notices") (array (items_of notices))
    (member (codes "program") (string program)
    (member (codes "version") (string version) no_members))))))))))

-- the report from its parts, with the texts of both lists
abbrev pub report_data : (handle : ℕ) (asked : AskedReport) (text : List ℕ)
    (media groups entries notices : List Data) → Data
report_data handle asked text =
    consolidation_data handle asked.program asked.version (encode_lower (sha256 asked.list)) (encode_lower (sha256 text))

-- the inputs of a report: project and binding, the runs that become media, the new list, the handle and the options
pub record Told : Type 0 where
  pub project : ListProject
  pub binding : Binding
  pub kept : HomedRuns
  pub events : List Event
  pub text : List ℕ
  pub handle : ℕ
  pub asked : AskedReport

-- the input entries, each with the samples that it plays
abbrev pub given_of : Told → List Played
given_of t = given_entries t.binding.indexes t.project.events

-- the new entries, each with the samples that it plays
abbrev pub news_of : Told → List Played
news_of t = new_entries t.kept.homes t.kept.runs t.events

-- the groups of input entries that make up the new entries
abbrev pub groups_told : Told → List Shown
groups_told t = groups_of (given_of t) (news_of t)

-- the report with these media
abbrev pub told_data : Told → List Medium → Data
told_data t media = report_data t.handle t.asked t.text
    (map (medium_told t.project.sources t.binding.indexes (sounds_of t.binding) t.kept.homes) media)
    (map group_data (groups_told t))
    (map entry_data (map (grouped_in (groups_told t) (given_of t)) (news_of t)))
    (map notice_data (t.project.notices ++ t.binding.notices))

-- the value as one line
abbrev pub json_of : Told → List Medium → List ℕ
json_of t media = compact_text (told_data t media) ++ 10 ∷ []

-- the media over these sources
abbrev pub media_over : Files → Told → List Medium
media_over sources t = media_of t.asked.digests sources (sounds_of t.binding) t.kept.homes t.kept.runs

-- the report over these sources, as text
abbrev pub report_json : Files → Told → List ℕ
report_json sources t = json_of t (media_over sources t)

-- the checksums of all files written, over these sources
abbrev pub report_sums : Files → Told → List ℕ
report_sums sources t = sums_of (media_over sources t) t.text (report_json sources t)

-- both parts of the report are as specified for these sources
pub record IsReportOf (sources : Files) (t : Told) (report : Report) : Type 0 where
  pub json : report.json.items ≡ report_json sources t
  pub sums : report.sums.items ≡ report_sums sources t
