-- Facts about a whole sound file: its format, the position of its samples, and the fields of its `bext` chunk.
use Rattle.std.specs.Prelude.{ℕ, ◌+◌, ◌*◌, ◌/◌, ◌&&◌, nat_lt, nat_le, Bool, not, ℤ, pos, List, length, take, drop, slice_get, Option, None, Some, is_some, if◌then◌else◌}
use Rattle.sound_terms.specs.declared.Depth.{Depth}
use Rattle.sound_terms.specs.declared.Span.{Span}
use Rattle.sound_terms.specs.declared.Chunks.{Chunks}
use Rattle.sound_terms.specs.declared.Format.{Format}
use Rattle.sound_terms.specs.Depth.{bits_of}
use Rattle.sound_terms.specs.Chunks.{number_at}
use Rattle.sound_terms.specs.Mix.{Reading, full_scale}
use Rattle.sound_terms.specs.Waves.{sample_at}
use Rattle.work_terms.specs.Disk.{Files}

-- all facts of a sound file. `offset` is the offset of its samples; `text`, `time_reference` and `history` are fields
-- of its `bext` chunk; `short_bext`, `history_cut` and `others` say that something in the file is not copied.
pub record SoundFacts : Type 0 where
  pub name : List ℕ
  pub channels : ℕ
  pub depth : Depth
  pub frames : ℕ
  pub offset : ℕ
  pub text : Option (List ℕ)
  pub time_reference : Option ℕ
  pub history : List ℕ
  pub short_bext : Bool
  pub history_cut : Bool
  pub others : Bool

-- bytes of a range of a file
abbrev pub bytes_of_span : List ℕ → Span → List ℕ
bytes_of_span file span = take span.length (drop span.at file)

-- maximum length of a CodingHistory that is copied
abbrev pub history_limit : ℕ
history_limit = 65536

-- facts of a file with these chunks, this format and these contents of its `bext` chunk, which are empty if there is
-- none (EBU Tech 3285, 2.3: five text fields, TimeReference at offset 338, CodingHistory from offset 602 on)
abbrev pub facts_with : List ℕ → Chunks → Format → List ℕ → SoundFacts
facts_with name chunks format bext =
    let is_whole = nat_le 346 (length bext) in
    record {
      name = name;
      channels = format.channels;
      depth = format.depth;
      frames = chunks.sound.length / (format.channels * (bits_of format.depth / 8));
      offset = chunks.sound.at;
      text = if is_whole then Some (take 338 bext) else None;
      time_reference = if is_whole then Some (number_at 8 338 bext) else None;
      history = take history_limit (drop 602 bext);
      short_bext = is_some chunks.bext && not is_whole;
      history_cut = nat_lt (602 + history_limit) (length bext);
      others = chunks.others;
    }

-- contents of the opened files as samples at full scale, by file number; zero outside their channels and sample frames
abbrev pub reading_by : Files → List SoundFacts → Reading
reading_by files sounds file channel frame = of_sound (slice_get sounds file) where
  of_bytes : SoundFacts → Option (List ℕ) → ℤ
  of_bytes facts None = pos 0
  of_bytes facts (Some bytes) =
      if nat_lt frame facts.frames && (nat_le 1 channel && nat_le channel facts.channels)
      then full_scale (bits_of facts.depth)
      (sample_at bytes facts.offset facts.channels (bits_of facts.depth) frame channel)
      else pos 0

  of_sound : Option SoundFacts → ℤ
  of_sound None = pos 0
  of_sound (Some facts) = of_bytes facts (files facts.name)
