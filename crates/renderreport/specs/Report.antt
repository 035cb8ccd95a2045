-- The report of a rendering as a JSON value (RFC 8259).
use Rattle.std.specs.Prelude.{ℕ, zero, suc, ◌+◌, ◌/◌, ◌^◌, ◌==◌, max, bit_and, Bool, List, [], ◌∷◌, ◌++◌, map, Option, option_map, unwrap_or, if◌then◌else◌, codes}
use Rattle.hex.specs.Hex.{encode_lower}
use Rattle.serde_json.specs.Data.{Data, null, number, unsigned, string, array, object, member, no_members}
use Rattle.serde_json.specs.View.{items_of}
use Rattle.serde_json.specs.Written.{compact_text}
use Rattle.sha2.specs.Sha256.{sha256}
use Rattle.clipping.specs.declared.tally.Clips.{Clips}
use Rattle.sound_terms.specs.declared.Depth.{Depth}
use Rattle.sound_terms.specs.Depth.{bits_of}
use Rattle.work_terms.specs.Disk.{Files}
use Rattle.renderreport.specs.declared.report_facts.ReportFacts.{ReportFacts}

-- name of the report file
abbrev pub report_name : List ℕ
report_name = codes "render.json"

-- name of the rendered file
abbrev pub sound_name : List ℕ
sound_name = codes "render.wav"

-- contents of a file, empty if it does not exist
abbrev pub content : Files → List ℕ → List ℕ
content files name = unwrap_or (files name) []

-- The content of a report: the program, the list and the depth; the range from `start` on, in sample frames, and the
-- number of channels; the clipping; and for a resumed rendering the number of blocks marked before.
pub record Facts : Type 0 where
  pub program : List ℕ
  pub version : List ℕ
  pub list : List ℕ
  pub depth : Depth
  pub start : ℕ
  pub frames : ℕ
  pub channels : ℕ
  pub clips : Clips
  pub marked : Option ℕ

-- the content passed by a caller
abbrev pub facts_of : ReportFacts → Facts
facts_of facts = record {
  program = facts.program.now;
  version = facts.version.now;
  list = facts.list.now;
  depth = facts.depth;
  start = facts.start;
  frames = facts.frames;
  channels = facts.channels;
  clips = facts.clips;
  marked = facts.marked;
}

-- a number as JSON
abbrev pub count : ℕ → Data
count n = number (unsigned n)

-- a number, or null if there is none
abbrev pub known : Option ℕ → Data
known n = unwrap_or (option_map count n) null

-- a digest as 64 hexadecimal digits
abbrev pub digest_data : List ℕ → Data
digest_data digest = string (encode_lower digest)

-- the bit of the channel is set; channels count from 0
abbrev pub is_marked : (mask channel : ℕ) → Bool
is_marked mask channel = bit_and (mask / 2 ^ channel) 1 == 1

-- 1-based numbers of those of the first n channels whose bits are set
abbrev pub channels_to : (mask n : ℕ) → List ℕ
channels_to mask zero = []
channels_to mask (suc n) = channels_to mask n ++ (if is_marked mask n then suc n ∷ [] else [])

-- 1-based numbers of all channels whose bits are set
unfoldable pub channels_of : (mask : ℕ) → List ℕ
channels_of mask = channels_to mask 64

-- time of the sample frame that contains a sample; samples count from 0, interleaved by channel
abbrev pub time_of : Facts → (sample : ℕ) → ℕ
time_of facts sample = facts.start + sample / max facts.channels 1

-- the clipping: the channels, the time of the first clipped sample, the greatest absolute value of an exact sum (full
-- scale is 2^47), and the number of clipped samples
abbrev pub clipped_data : Facts → Data
clipped_data facts =
    object (member (codes "channels") (array (items_of (map count (channels_of facts.clips.channels))))
    (member (codes "first") (known (option_map (time_of facts) facts.clips.first))
    (member (codes "peak") (count facts.clips.peak)
    (member (codes "samples") (count facts.clips.samples) no_members))))

-- version of the report format
abbrev pub form : ℕ
form = 1

-- the report of a rendering; `digest` is the SHA-256 of its file
abbrev pub report_data : Facts → (digest : List ℕ) → Data
report_data facts digest =
    object (member (codes "channels") (count facts.channels)
    (member (codes "clipped") (clipped_data facts)
    (member (codes "depth") (count (bits_of facts.depth))
    (member (codes "first") (count facts.start)
    (member (codes "form") (count form)
    (member (codes "frames") (count facts.frames)
    (member (codes "given_list_sha256") (digest_data (sha256 facts.list))
    (member (codes "marked") (known facts.marked)
    (member (codes "program") (string facts.program)
    (member (codes "sha256") (digest_data digest)
    (member (codes "version") (string facts.version) no_members)))))))))))

-- the report as one line of JSON, for a file with these bytes
abbrev pub report_text : Facts → (sound : List ℕ) → List ℕ
report_text facts sound = compact_text (report_data facts (sha256 sound)) ++ 10 ∷ []
