-- Views of projects and headers.
use Rattle.std.specs.Prelude.{ℕ, List}
use Rattle.sampletime.specs.FrameRate.{frames_per_second}
use Rattle.sampletime.specs.declared.frame_rate.Rate.{Rate}
use Rattle.sound_terms.specs.declared.Event.{Event}
use Rattle.list_terms.specs.declared.Notice.{Notice}
use Rattle.list_terms.specs.Project as list
use Rattle.adlmodel.specs.declared.header.Header.{Header}

-- The header that a Rattle value represents.
abbrev pub header_view : Header → list.Header
header_view header = record {
  version = header.version;
  project = header.project;
  system = header.system;
  sequence = header.sequence;
  track_list = header.track_list;
}

-- The project with these parts.
abbrev pub project_of : Header → Rate → List list.Source → List Event → List ℕ → List Notice → list.ListProject
project_of header rate sources events separators notices = record {
  header = header_view header;
  rate = frames_per_second rate;
  sources = sources;
  events = events;
  separators = separators;
  notices = notices;
}
