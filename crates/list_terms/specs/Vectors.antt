-- Worked examples, computed from the definitions.
use Rattle.std.specs.Prelude.{◌≡◌, refl, ℕ, List, [], ◌∷◌, ◌++◌, map, replicate, Option, None, Some, Ok, false, bytes_eq, if◌then◌else◌, option_map, codes}
use Rattle.std.specs.Str.{is_utf8, chars}
use lib.Utf8.{encode}
use Rattle.percent_encoding.specs.Percent.{percent_decode}
use Rattle.sound_terms.specs.declared.Depth.TheVariants.{Sixteen}
use Rattle.sound_terms.specs.declared.Event.{Event}
use Rattle.sound_terms.specs.declared.BoundIndex.{BoundIndex}
use Rattle.sound_terms.specs.Sounds.{SoundFacts}
use Rattle.work_terms.specs.Disk.{Files}
use Rattle.work_terms.specs.Refusals.{Refusal, IndexFile, Index, Entry}
use Rattle.list_terms.specs.Names.{place_of_url}
use Rattle.list_terms.specs.Project.{Source, ListProject}
use Rattle.list_terms.specs.Binding.{base_of, addressable_from}
use Rattle.list_terms.specs.Accepted.{span_fault, range_of, OptionValues}
use Rattle.list_terms.specs.Heard.{read_fault}

pub names : map (λ url. option_map (λ place. place.name) (place_of_url url))
    (codes "URL:file://localhost/A.wav" ∷ codes "file:///x/A%20b.wav" ∷ codes "url:FILE://host/x/y%2Fz/B.wav"
    ∷ codes "file://a/50%.wav"
    ∷ codes "http://a/A.wav" ∷ codes "file://localhost" ∷ codes "file://a/x/" ∷ codes "file://a/.."
    ∷ codes "file://a/x%2FA.wav" ∷ [])
    ≡ Some (codes "A.wav") ∷ Some (codes "A b.wav") ∷ Some (codes "B.wav") ∷ Some (codes "50%.wav")
    ∷ None ∷ None ∷ None ∷ None ∷ None ∷ []
unfolding is_utf8 chars encode percent_decode
names = refl

-- A mono file of 16 bits with the given length and TimeReference.
abbrev facts : ℕ → Option ℕ → SoundFacts
facts frames reference = record {
  name = codes "A.wav";
  channels = 1;
  depth = Sixteen;
  frames = frames;
  offset = 44;
  text = None;
  time_reference = reference;
  history = [];
  short_bext = false;
  history_cut = false;
  others = false;
}

abbrev source : ℕ → List ℕ → Option ℕ → Source
source number url start = record { number = number; url = url; uid = codes "_"; start = start; length = None }

-- The base is the index's in, or else the TimeReference, or else midnight.
pub bases : map (λ start. base_of (source 1 [] start) (facts 10 (Some 172800000))) (None ∷ Some 0 ∷ [])
    ≡ 172800000 ∷ 0 ∷ []
bases = refl

pub no_reference : base_of (source 1 [] None) (facts 10 None) ≡ 0
no_reference = refl

-- Two samples remain before midnight, and none from then on.
pub up_to_midnight : map (λ base. addressable_from base (facts 10 None)) (4147199998 ∷ 4147200000 ∷ 4147199000 ∷ [])
    ≡ 2 ∷ 0 ∷ 10 ∷ []
up_to_midnight = refl

-- An event on the first channel: index, source in, source channel, destination in and out, fades.
abbrev event : ℕ → ℕ → ℕ → ℕ → ℕ → ℕ → ℕ → Event
event index source_in channel dest_in dest_out rise fall = record {
  number = 7;
  index = index;
  source = record { first = channel; last = channel };
  dest = record { first = 1; last = 1 };
  source_in = source_in;
  dest_in = dest_in;
  dest_out = dest_out;
  rise = record { length = rise };
  fall = record { length = fall };
}

abbrev from_hundred : BoundIndex
from_hundred = record { number = 1; file = 0; base = 100; addressable = 20 }

-- Fades as long as the event or longer; spans to the end and past it, before the base, and empty spans anywhere.
pub spans : map (span_fault from_hundred (facts 20 None))
    (event 1 100 1 0 10 6 4 ∷ event 1 100 1 0 10 6 5 ∷ event 1 100 1 0 20 0 0 ∷ event 1 100 1 0 21 0 0
    ∷ event 1 99 1 0 1 0 0
    ∷ event 1 5 1 8 8 0 0 ∷ event 1 100 1 9 8 0 0 ∷ event 1 100 2 0 1 0 0 ∷ event 1 100 2 8 8 0 0
    ∷ event 1 100 2 8 8 1 0 ∷ [])
    ≡ None ∷ Some 43 ∷ None ∷ Some 46 ∷ Some 46 ∷ None ∷ Some 42 ∷ Some 44 ∷ Some 44 ∷ Some 43 ∷ []
spans = refl

-- A mono file of 16 bits with four samples.
abbrev wave : List ℕ
wave = codes "RIFF" ++ (44 ∷ 0 ∷ 0 ∷ 0 ∷ []) ++ codes "WAVEfmt " ++ (16 ∷ 0 ∷ 0 ∷ 0 ∷ [])
    ++ (1 ∷ 0 ∷ 1 ∷ 0 ∷ 128 ∷ 187 ∷ 0 ∷ 0 ∷ 0 ∷ 119 ∷ 1 ∷ 0 ∷ 2 ∷ 0 ∷ 16 ∷ 0 ∷ []) ++ codes "data"
    ++ (8 ∷ 0 ∷ 0 ∷ 0 ∷ []) ++ replicate 8 7

abbrev folder : Files
folder name = if bytes_eq name (codes "A.wav") then Some wave else None

abbrev project : List Source → List Event → ListProject
project sources events = record {
  header = record { version = None; project = None; system = None; sequence = None; track_list = None };
  rate = 25;
  sources = sources;
  events = events;
  separators = codes ".../";
  notices = [];
}

abbrev fault : List Source → List Event → Option Refusal
fault sources events = read_fault folder (Ok (project sources events))

abbrev here : ℕ → Source
here number = source number (codes "URL:file://localhost/A.wav") (Some 0)

abbrev refusal : ℕ → Refusal
refusal number = record { number = number; location = Entry 7; late = false }

pub accepted : fault (here 1 ∷ []) (event 1 0 1 0 4 0 0 ∷ []) ≡ None
unfolding is_utf8 chars encode percent_decode
accepted = refl

pub one_frame_too_many : fault (here 1 ∷ []) (event 1 0 1 0 5 0 0 ∷ []) ≡ Some (refusal 46)
unfolding is_utf8 chars encode percent_decode
one_frame_too_many = refl

pub unknown_index : fault (here 1 ∷ []) (event 2 0 1 0 4 0 0 ∷ []) ≡ Some (refusal 41)
unknown_index = refl

pub source_channel : fault (here 1 ∷ []) (event 1 0 2 0 4 0 0 ∷ []) ≡ Some (refusal 44)
unfolding is_utf8 chars encode percent_decode
source_channel = refl

-- No option given.
abbrev options : OptionValues
options = record { from = None; to = None; channels = None; depth = Sixteen }

-- From the first in to the last out, on all channels; an empty range without entries.
pub default_ranges : map (λ events. range_of (project (here 1 ∷ []) events) options)
    ((event 1 0 1 7 9 0 0 ∷ event 1 0 1 3 8 0 0 ∷ []) ∷ [] ∷ [])
    ≡ record { from = 3; to = 9; channels = 1; depth = Sixteen }
    ∷ record { from = 0; to = 0; channels = 1; depth = Sixteen } ∷ []
default_ranges = refl

-- A missing file is refused if an entry uses it, and before any entry is checked.
pub missing_file : fault (here 1 ∷ source 2 (codes "file:///B.wav") None ∷ [])
    (event 3 0 1 0 4 0 0 ∷ event 2 0 1 0 4 0 0 ∷ [])
    ≡ Some (record { number = 21; location = IndexFile 2 (codes "B.wav"); late = false })
unfolding is_utf8 chars encode percent_decode
missing_file = refl

-- Two paths that end in the same name are refused at the second index, if both are used.
pub two_paths : map (λ events. fault (source 1 (codes "file:///x/A.wav") None ∷ source 2 (codes "file:///y/A.wav") None
    ∷ []) events)
    ((event 1 0 1 0 4 0 0 ∷ event 2 0 1 0 4 0 0 ∷ []) ∷ (event 1 0 1 0 4 0 0 ∷ []) ∷ [])
    ≡ Some (record { number = 30; location = Index 2; late = false }) ∷ None ∷ []
unfolding is_utf8 chars encode percent_decode
two_paths = refl
