-- The parts of a report, in order.
use Rattle.std.specs.Prelude.{ℕ, ◌+◌, List, [], ◌∷◌, ◌++◌, Bool, true, false, if◌then◌else◌, option_map, codes, decimal, flat_map}
use Rattle.hex.specs.Hex.{encode_lower}
use Rattle.json.specs.Print.{escape}
use Rattle.serde_json.specs.Written.{comma_if, compact_text}
use Rattle.sha2.specs.Sha256.{sha256}
use Rattle.sound_terms.specs.Depth.{bits_of}
use Rattle.renderreport.specs.declared.texts.Part.{Part}
use Rattle.renderreport.specs.declared.texts.Part.TheVariants.{Digest, InString, Number, Plain}
use Rattle.renderreport.specs.Report.{Facts, channels_of, form, is_marked, known, time_of}

-- a plain text, a text escaped for a string, a number in decimal, or a digest in hexadecimal
abbrev pub part_text : Part → List ℕ
part_text (Plain text) = text.now
part_text (InString text) = escape text.now
part_text (Number n) = decimal n
part_text (Digest digest) = escape (encode_lower digest)

-- concatenation of the parts
unfoldable pub all_of : List Part → List ℕ
all_of parts = flat_map part_text parts

-- a number, preceded by a comma unless it is the first
unfoldable pub item_text : (is_later : Bool) → ℕ → List ℕ
item_text is_later n = comma_if is_later ++ decimal n

-- the 1-based number of a channel if its bit is set; `channel` counts from 0
unfoldable pub channel_text : (is_later : Bool) → (mask channel : ℕ) → List ℕ
channel_text is_later mask channel = if is_marked mask channel then item_text is_later (channel + 1) else []

-- numbers separated by commas; the flag says whether others precede them
abbrev pub listed_behind : (is_later : Bool) → List ℕ → List ℕ
listed_behind is_later [] = []
listed_behind is_later (n ∷ ns) = item_text is_later n ++ listed_behind true ns

-- numbers separated by commas
abbrev pub listed : List ℕ → List ℕ
listed = listed_behind false

-- the members up to the list of clipped channels
unfoldable pub opening_text : Facts → List ℕ
opening_text facts = codes "{\"channels\":" ++ (decimal facts.channels ++ codes ",\"clipped\":{\"channels\":[")

-- the rest of the clipping, after the list of channels
unfoldable pub clipped_end : Facts → List ℕ
clipped_end facts = codes "],\"first\":" ++ (compact_text (known (option_map (time_of facts) facts.clips.first))
    ++ (codes ",\"peak\":" ++ (decimal facts.clips.peak ++ (codes ",\"samples\":" ++ (decimal facts.clips.samples
    ++ codes "}")))))

-- the depth and the range
unfoldable pub range_text : Facts → List ℕ
range_text facts = codes ",\"depth\":" ++ (decimal (bits_of facts.depth) ++ (codes ",\"first\":" ++ (decimal facts.start
    ++ (codes ",\"form\":" ++ (decimal form ++ (codes ",\"frames\":" ++ decimal facts.frames))))))

-- the hashes of the list and the file, the marked blocks and the program
unfoldable pub end_text : Facts → (digest : List ℕ) → List ℕ
end_text facts digest = codes ",\"given_list_sha256\":\"" ++ (escape (encode_lower (sha256 facts.list))
    ++ (codes "\",\"marked\":" ++ (compact_text (known facts.marked)
    ++ (codes ",\"program\":\"" ++ (escape facts.program
    ++ (codes "\",\"sha256\":\"" ++ (escape (encode_lower digest)
    ++ (codes "\",\"version\":\"" ++ (escape facts.version ++ codes "\"}\n")))))))))

-- the whole report, part by part
unfoldable pub report_parts : Facts → (digest : List ℕ) → List ℕ
report_parts facts digest =
    opening_text facts ++ (listed (channels_of facts.clips.channels)
    ++ (clipped_end facts ++ (range_text facts ++ end_text facts digest)))
