-- Invariants of every project that a list spells.
use Rattle.std.specs.Prelude.{◌≡◌, ℕ, ◌+◌, ◌-◌, ◌≤◌, ◌==◌, ◌&&◌, not, nat_le, Bool, true, false, List, [], ◌∷◌, length, map, Option, None, Some, Result, Ok, Err, is_ok, is_some, unwrap_or, bytes_eq, codes, IsTrue}
use Rattle.std.specs.List.{list_all, IsDistinct}
use Rattle.sampletime.specs.FrameRate.{is_rate}
use Rattle.sampletime.specs.TimeCode.{are_separators, day, default_separators}
use Rattle.sound_terms.specs.declared.Channels.{Channels}
use Rattle.sound_terms.specs.declared.Event.{Event}
use Rattle.list_terms.specs.declared.Rates.{Rates}
use Rattle.list_terms.specs.declared.TextFault.{TextFault}
use Rattle.list_terms.specs.Names.{place_of_url}
use Rattle.list_terms.specs.Project.{Header, Source, ListProject}
use Rattle.list_terms.specs.Steps.{◌>>=◌}
use Rattle.list_terms.specs.Tokens.{Cut, is_quoted_byte, token_at, token_text, trimmed}
use Rattle.list_terms.specs.EntryLines.{system_line}
use Rattle.list_terms.specs.Text.{is_end, is_tag, sequence_rates}

-- A number of an index or entry, 1 to 32767.
abbrev pub is_number : ℕ → Bool
is_number number = nat_le 1 number && nat_le number 32767

-- One or more channels from 1 to 64.
abbrev pub are_channels : Channels → Bool
are_channels channels = nat_le 1 channels.first && (nat_le channels.first channels.last && nat_le channels.last 64)

-- An event with equal numbers of source and destination channels.
abbrev pub has_same_widths : Event → Bool
has_same_widths event = event.source.last - event.source.first == event.dest.last - event.dest.first

-- An event whose times and fade lengths are at most a day.
abbrev pub has_times_of_day : Event → Bool
has_times_of_day event =
    nat_le event.source_in day && (nat_le event.dest_in day && (nat_le event.dest_out day
    && (nat_le event.rise.length day && nat_le event.fall.length day)))

-- A valid event: its numbers, channels and times are in range.
abbrev pub is_event : Event → Bool
is_event event =
    is_number event.number && (is_number event.index && (are_channels event.source && (are_channels event.dest
    && (has_same_widths event && has_times_of_day event))))

-- A time of at most a day, or none.
abbrev pub is_time_of_day : Option ℕ → Bool
is_time_of_day None = true
is_time_of_day (Some time) = nat_le time day

-- A source with a number, a URL that names a file, and times of at most a day.
abbrev pub is_source : Source → Bool
is_source source =
    is_number source.number && (is_some (place_of_url source.url)
    && (is_time_of_day source.start && is_time_of_day source.length))

-- Pairwise different numbers.
abbrev pub AreDistinct : List ℕ → Type 0
AreDistinct numbers = IsDistinct (λ a b. a == b) numbers

-- The numbers of the sources.
abbrev pub index_numbers : List Source → List ℕ
index_numbers sources = map (λ source. source.number) sources

-- The numbers of the entries.
abbrev pub entry_numbers : List Event → List ℕ
entry_numbers events = map (λ event. event.number) events

-- Sources that name files, with pairwise different numbers.
pub record AreNumberedSources (sources : List Source) : Type 0 where
  pub each : IsTrue (list_all is_source sources)
  pub distinct : AreDistinct (index_numbers sources)

-- A byte of a line: any except LF.
abbrev pub is_line_byte : ℕ → Bool
is_line_byte byte = not (byte == 10)

-- A byte that may be between quotation marks in a line.
abbrev pub is_quotable : ℕ → Bool
is_quotable byte = is_quoted_byte byte && is_line_byte byte

-- The text is exactly one token.
abbrev pub is_one_token : List ℕ → Bool
is_one_token text = of_cut (token_at text) where
  of_cut : Result (Option Cut) TextFault → Bool
  of_cut (Err fault) = false
  of_cut (Ok None) = false
  of_cut (Ok (Some (token, rest))) = bytes_eq (token_text token) text

-- The URL can be quoted in a line, and the identifier is one token.
abbrev pub has_whole_texts : Source → Bool
has_whole_texts source =
    list_all is_quotable source.url && (list_all is_line_byte source.uid && is_one_token source.uid)

-- The sources of a source index.
pub record AreSources (sources : List Source) : Type 0 where
  pub numbered : AreNumberedSources sources
  pub texts : IsTrue (list_all has_whole_texts sources)

-- The entries of an event list, with pairwise different numbers.
pub record AreEvents (events : List Event) : Type 0 where
  pub each : IsTrue (list_all is_event events)
  pub distinct : AreDistinct (entry_numbers events)

-- ---- the header

-- The lines of a section, or no lines if it doesn't exist.
abbrev pub lines_of_section : Option (List (List ℕ)) → List (List ℕ)
lines_of_section lines = unwrap_or lines []

-- A line kept from the section with this name, which it doesn't close.
abbrev pub is_kept : List ℕ → List ℕ → Bool
is_kept name text = list_all is_line_byte text && not (is_end name (trimmed text))

-- Lines kept from the section with this name.
abbrev pub are_kept : List ℕ → Option (List (List ℕ)) → Bool
are_kept name lines = list_all (is_kept name) (lines_of_section lines)

-- The number of header lines.
abbrev pub line_count : Header → ℕ
line_count header = length (lines_of_section header.version) + (length (lines_of_section header.project)
    + (length (lines_of_section header.system) +
    (length (lines_of_section header.sequence) + length (lines_of_section header.track_list))))

-- No rate given yet.
abbrev pub no_rates : Rates
no_rates = record { sample_rate = false; frame_rate = false }

-- Both rates given.
abbrev pub both_rates : Rates
both_rates = record { sample_rate = true; frame_rate = true }

-- A supported line of SYSTEM.
abbrev pub is_system_line : ℕ → List ℕ → Bool
is_system_line rate text = not (is_tag text) && is_ok (system_line rate text)

-- The rates given after these lines of SEQUENCE, or the first fault.
abbrev pub told_rates : ℕ → Rates → List (List ℕ) → Result Rates TextFault
told_rates rate rates [] = Ok rates
told_rates rate rates (text ∷ lines) = sequence_rates rate rates text >>= (λ told. told_rates rate told lines)

-- The kept lines of a header: at most 65,535, none of which closes its section. SEQUENCE gives both rates, and no
-- frame rate but this one.
pub record IsHeader (rate : ℕ) (header : Header) : Type 0 where
  pub version : IsTrue (are_kept (codes "VERSION") header.version)
  pub project : IsTrue (are_kept (codes "PROJECT") header.project)
  pub system : IsTrue (are_kept (codes "SYSTEM") header.system)
  pub sequence : IsTrue (are_kept (codes "SEQUENCE") header.sequence)
  pub track_list : IsTrue (are_kept (codes "TRACKLIST") header.track_list)
  pub settings : IsTrue (list_all (is_system_line rate) (lines_of_section header.system))
  pub rates : told_rates rate no_rates (lines_of_section header.sequence) ≡ Ok both_rates
  pub few : line_count header ≤ 65535

-- ---- the whole project

-- A project that some list spells, at a frame rate of 24, 25 or 30.
pub record IsProject (project : ListProject) : Type 0 where
  pub header : IsHeader project.rate project.header
  pub rate : IsTrue (is_rate project.rate)
  pub sources : AreSources project.sources
  pub events : AreEvents project.events
  pub separators : IsTrue (are_separators project.separators)
  pub standard : project.events ≡ [] → project.separators ≡ default_separators

-- The project without its notices.
abbrev pub without_notices : ListProject → ListProject
without_notices project = record project { notices = [] }
