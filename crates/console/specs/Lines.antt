-- The lines that the program prints, without their ends.
use Rattle.std.specs.Prelude.{ℕ, Bool, true, false, ◌||◌, ◌==◌, List, [], ◌∷◌, ◌++◌, if◌then◌else◌, nat_le, nat_lt, decimal, codes, encode_utf8}
use Rattle.std.specs.List.{flat_map}
use Rattle.std.specs.Str.{chars}
use Rattle.ucd_category.specs.GeneralCategory.{general_category}
use Rattle.ucd_category.specs.declared.GeneralCategory.{GeneralCategory}
use Rattle.ucd_category.specs.declared.GeneralCategory.TheVariants.{Control, Format, LineSeparator, ParagraphSeparator}
use Rattle.ucd_derived.specs.Binary.{is_default_ignorable_code_point}
use Rattle.percent_encoding.specs.Percent.{percent_encode_byte}
use Rattle.list_terms.specs.declared.Notice.{Notice}
use Rattle.console.specs.declared.lines.ListOfTwo.{ListOfTwo}
use Rattle.console.specs.declared.lines.ListOfTwo.TheVariants.{First, Second}
use Rattle.work_terms.specs.Refusals.{Where, Nowhere, Line, LineEntry, LineIndex, IndexFile, Index, Entry, File, Job}

-- general categories without a visible form (Unicode 18.0, section 4.5): Cc, Cf, Zl and Zp
abbrev pub is_hidden : GeneralCategory → Bool
is_hidden Control = true
is_hidden Format = true
is_hidden LineSeparator = true
is_hidden ParagraphSeparator = true
is_hidden _ = false

-- an invisible character: of such a category, ignored by default when text is displayed, or the blank Braille pattern
abbrev pub is_unseen : ℕ → Bool
is_unseen character =
    is_hidden (general_category character) || (is_default_ignorable_code_point character || character == 0x2800)

-- an invisible character as the percent escapes of its UTF-8 bytes, any other unchanged
abbrev pub printed_character : ℕ → List ℕ
printed_character character =
    if is_unseen character then flat_map percent_encode_byte (encode_utf8 character) else encode_utf8 character

-- a name as printed
abbrev pub printed_name : List ℕ → List ℕ
printed_name name = flat_map printed_character (chars name)

-- a text, followed by a number
abbrev pub counted : List ℕ → ℕ → List ℕ
counted words number = words ++ decimal number

-- a text, followed by a name
abbrev pub named : List ℕ → List ℕ → List ℕ
named words name = words ++ printed_name name

-- the location of a refusal, after its number
abbrev pub place_text : Where → List ℕ
place_text Nowhere = []
place_text (Line line) = counted (codes " at line ") line
place_text (LineEntry line entry) = counted (codes " at line ") line ++ counted (codes " entry ") entry
place_text (LineIndex line index) = counted (codes " at line ") line ++ counted (codes " index ") index
place_text (IndexFile index name) = counted (codes " at index ") index ++ named (codes " file ") name
place_text (Index index) = counted (codes " at index ") index
place_text (Entry entry) = counted (codes " at entry ") entry
place_text (File name) = named (codes " at file ") name
place_text (Job job) = counted (codes " at job ") job

-- a number with at least two digits
abbrev pub two_digits : ℕ → List ℕ
two_digits number = if nat_lt number 10 then counted (codes "0") number else decimal number

-- `refused NN`
abbrev pub refused : ℕ → List ℕ
refused number = codes "refused " ++ two_digits number

-- `refused NN` and the location
abbrev pub refusal_text : ℕ → Where → List ℕ
refusal_text number place = refused number ++ place_text place

-- `notice K at line L` about the list, or `notice K at index I` about a file
abbrev pub notice_text : Notice → List ℕ
notice_text notice =
    counted (codes "notice ") notice.kind
    ++ counted (if nat_le notice.kind 2 then codes " at line " else codes " at index ") notice.at

-- notices, one per line
abbrev pub notices_text : List Notice → List ℕ
notices_text notices = flat_map (λ notice. notice_text notice ++ 10 ∷ []) notices

-- two counts and the text around them
abbrev pub counts_text : (before between behind : List ℕ) → ℕ → ℕ → List ℕ
counts_text before between behind first second = counted before first ++ (counted between second ++ behind)

-- `accepted E entries I indexes`
abbrev pub accepted_text : ℕ → ℕ → List ℕ
accepted_text = counts_text (codes "accepted ") (codes " entries ") (codes " indexes")

-- `rendered F frames C channels`
abbrev pub rendered_text : ℕ → ℕ → List ℕ
rendered_text = counts_text (codes "rendered ") (codes " frames ") (codes " channels")

-- `resumed F frames K blocks were marked`
abbrev pub resumed_text : ℕ → ℕ → List ℕ
resumed_text = counts_text (codes "resumed ") (codes " frames ") (codes " blocks were marked")

-- `written R media E entries`
abbrev pub written_text : ℕ → ℕ → List ℕ
written_text = counts_text (codes "written ") (codes " media ") (codes " entries")

-- the list that a line is about, at the end of the line
abbrev pub in_list : ListOfTwo → List ℕ
in_list First = codes " in list 1"
in_list Second = codes " in list 2"

-- the notices of one of two lists, one per line
abbrev pub notices_of_list : ListOfTwo → List Notice → List ℕ
notices_of_list list notices = flat_map (λ notice. (notice_text notice ++ in_list list) ++ 10 ∷ []) notices

-- `same F frames C channels`
abbrev pub same_text : ℕ → ℕ → List ℕ
same_text = counts_text (codes "same ") (codes " frames ") (codes " channels")

-- `differ at TIME channel C`, with the time as text
abbrev pub differ_text : List ℕ → ℕ → List ℕ
differ_text time channel = codes "differ at " ++ (time ++ counted (codes " channel ") channel)
