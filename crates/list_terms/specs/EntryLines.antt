-- The fields of the lines of SOURCE_INDEX, EVENT_LIST, SEQUENCE and SYSTEM (AES31-3, in the profile of
-- docs/LIST.md).
use Rattle.std.specs.Prelude.{ℕ, ◌-◌, ◌==◌, ◌||◌, not, Bool, true, false, List, Option, None, Some, Result, if◌then◌else◌, bytes_eq, codes, unwrap_or, option_map}
use Rattle.sampletime.specs.TimeCode.{samples_of}
use Rattle.sound_terms.specs.declared.Channels.{Channels}
use Rattle.sound_terms.specs.declared.Event.{Event}
use Rattle.list_terms.specs.declared.EntryKeyword.{EntryKeyword}
use Rattle.list_terms.specs.declared.EntryKeyword.TheVariants.{Gain, Infade, Outfade, Rem}
use Rattle.list_terms.specs.declared.OpenEntry.{OpenEntry}
use Rattle.list_terms.specs.declared.Rates.{Rates}
use Rattle.list_terms.specs.declared.TextFault.{TextFault}
use Rattle.list_terms.specs.declared.TextFault.TheVariants.{BadChannels, RepeatedFade, Unplaced, Unsupported, WrongSequence}
use Rattle.list_terms.specs.Forms.{Done, Form, Identifier, May, MayTime, Number, Passes, Refused, Run, Then, Time, Unless, Url, any, keyword, mapped, reads_line}
use Rattle.list_terms.specs.Project.{Source}
use Rattle.list_terms.specs.Tokens.{TokenText}
use Rattle.list_terms.specs.Fields.{is_same_name, is_keyword, is_missing, is_zero, told_rate}

-- ---- the source index

-- The fields after an index number: `(F)`, URL, identifier, in and length.
abbrev pub source_fields : ℕ → ℕ → Form Source
source_fields rate number =
    Then (keyword (codes "F")) (λ _. Then Url (λ url. Then Identifier (λ uid.
    Then (MayTime rate) (λ start. Then (MayTime rate) (λ length.
    Done any (record { number = number; url = url; uid = uid; start = start; length = length }))))))

-- ---- the event list

-- The token `I`, the only supported kind of cut.
abbrev pub is_cut : TokenText → Bool
is_cut token = bytes_eq token.content (codes "I")

-- Two runs with equal numbers of channels.
abbrev pub has_width : Channels → Channels → Bool
has_width a b = a.last - a.first == b.last - b.first

-- The times of an event, and the separators of its destination in.
abbrev pub time_fields : ℕ → (number index : ℕ) → (source dest : Channels) → Form (Event × List ℕ)
time_fields rate number index source dest =
    Then (Time rate) (λ source_in. Then (Time rate) (λ dest_in. Then (Time rate) (λ dest_out. Done any (
      record {
        number = number;
        index = index;
        source = source;
        dest = dest;
        source_in = source_in.0;
        dest_in = dest_in.0;
        dest_out = dest_out.0;
        rise = record { length = 0 };
        fall = record { length = 0 };
      },
      dest_in.1,
    ))))

-- The fields after an entry number: `(Cut) I`, index, source channels, an equal number of destination channels, and
-- times.
abbrev pub event_fields : ℕ → ℕ → Form (Event × List ℕ)
event_fields rate number =
    Then (keyword (codes "Cut")) (λ _. Then (Passes is_cut Unsupported) (λ _. Then Number (λ index.
    Then Run (λ source. Then Run (λ dest.
    Unless (not (has_width source dest)) BadChannels (time_fields rate number index source dest))))))

-- The token `LIN`, the only supported curve, in any case.
abbrev pub is_linear : TokenText → Bool
is_linear token = is_same_name token.content (codes "LIN")

-- The curve of a fade. If the fade is longer than zero, the curve must be linear.
abbrev pub curve_field : ℕ → Form ℕ
curve_field length =
    if length == 0 then Done any length else Then (Passes is_linear Unsupported) (λ _. Done any length)

-- The length and the curve of a fade.
abbrev pub fade_fields : ℕ → Form ℕ
fade_fields rate = Then (MayTime rate) (λ time. curve_field (unwrap_or time 0))

-- The entry with a fade-in of this length.
abbrev pub with_rise : OpenEntry → ℕ → OpenEntry
with_rise entry length =
    record entry { event = record entry.event { rise = record { length = length } }; has_rise = true }

-- The entry with a fade-out of this length.
abbrev pub with_fall : OpenEntry → ℕ → OpenEntry
with_fall entry length =
    record entry { event = record entry.event { fall = record { length = length } }; has_fall = true }

-- The fade-in of an entry, which may be given only once.
abbrev pub told_rise : ℕ → OpenEntry → Form OpenEntry
told_rise rate entry = Unless entry.has_rise RepeatedFade (mapped (with_rise entry) (fade_fields rate))

-- The fade-out of an entry, which may be given only once.
abbrev pub told_fall : ℕ → OpenEntry → Form OpenEntry
told_fall rate entry = Unless entry.has_fall RepeatedFade (mapped (with_fall entry) (fade_fields rate))

-- The kind of a line after an entry, by its first token. All other lines are unsupported.
unfoldable pub entry_keyword : TokenText → Option EntryKeyword
entry_keyword token =
    if is_keyword (codes "Infade") token then Some Infade
    else if is_keyword (codes "Outfade") token then Some Outfade
    else if is_keyword (codes "Rem") token then Some Rem
    else if is_keyword (codes "Gain") token then Some Gain
    else None

-- The entry after one of its lines: a fade, a remark, or a gain of zero. The first token decides which.
unfoldable pub entry_with : ℕ → OpenEntry → TokenText → Form OpenEntry
entry_with rate entry token = said (entry_keyword token) where
  said : Option EntryKeyword → Form OpenEntry
  said None = Refused Unsupported
  said (Some Infade) = told_rise rate entry
  said (Some Outfade) = told_fall rate entry
  said (Some Rem) = Done any entry
  said (Some Gain) = Done (λ t. is_zero t.content) entry

-- Before the first entry only remarks are allowed.
unfoldable pub remark : TokenText → Form (Unit {0})
remark token = if is_keyword (codes "Rem") token then Done any tt else Refused Unplaced

-- ---- settings

-- The sample rate `S48000` or `48000`.
abbrev pub is_48000 : TokenText → Bool
is_48000 token = is_same_name token.content (codes "S48000") || bytes_eq token.content (codes "48000")

-- Whether the token is the list's frame rate.
abbrev pub tells_rate : ℕ → TokenText → Bool
tells_rate rate token = unwrap_or (option_map (λ told. told == rate) (told_rate token.content)) false

-- The rates given so far, after a line of SEQUENCE: 48,000 samples and this frame rate are accepted; other lines
-- aren't interpreted.
abbrev pub sequence_fields : ℕ → Rates → TokenText → Form Rates
sequence_fields rate rates token =
    if is_keyword (codes "SEQ_SAMPLE_RATE") token
    then Then (Passes is_48000 WrongSequence) (λ _. Done any (record rates { sample_rate = true }))
    else if is_keyword (codes "SEQ_FRAME_RATE") token
    then Then (Passes (tells_rate rate) WrongSequence) (λ _. Done any (record rates { frame_rate = true }))
    else Done any rates

-- The rates given after a line of SEQUENCE, or the fault of the line.
unfoldable pub sequence_line : ℕ → Rates → List ℕ → Result Rates TextFault
sequence_line rate rates line = reads_line rates (sequence_fields rate rates) line

-- `_` or a time of zero.
abbrev pub is_no_offset : ℕ → List ℕ → Bool
is_no_offset rate text = is_missing text || unwrap_or (option_map (λ time. time.0 == 0) (samples_of rate text)) false

-- A line of SYSTEM, which must not set a source offset or a gain; other lines aren't interpreted.
abbrev pub system_fields : ℕ → TokenText → Form (Unit {0})
system_fields rate token =
    if is_keyword (codes "SYS_SRC_OFFSET") token then May (λ t. is_no_offset rate t.content) Unsupported tt
    else if is_keyword (codes "SYS_GAIN") token then May (λ t. is_zero t.content) Unsupported tt
    else Done any tt

-- The outcome of a line of SYSTEM, which is accepted or faulty.
unfoldable pub system_line : ℕ → List ℕ → Result (Unit {0}) TextFault
system_line rate line = reads_line tt (system_fields rate) line
