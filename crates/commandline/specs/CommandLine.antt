-- The command line as a value of clap's, and the meaning of arguments.
use Rattle.std.specs.Prelude.{ℕ, ◌&&◌, nat_le, nat_lt, Bool, true, false, List, [], ◌∷◌, length, Option, None, Some, option_and_then, option_map, if◌then◌else◌, codes}
use Rattle.std.specs.Char.{digit_value}
use Rattle.std.specs.List.{list_all, list_any}
use Rattle.std.specs.Str.{bytes_eq}
use Rattle.std.specs.Str.Parse.{digits_value, without_leading_plus}
use Rattle.std.specs.Option.{option_map_or}
use Rattle.clap.specs.Words.{App, Kinds, Row, Rule, Shape, Text, fault_of, first_of, new_app, new_rule, subcommand_of, with_rule, with_subcommand}
use Rattle.clap.specs.declared.builder.action.ArgAction.TheVariants.{SetTrue}
use Rattle.clap.specs.declared.error.ErrorKind.{ErrorKind}
use Rattle.clap.specs.declared.error.ErrorKind.TheVariants.{DisplayHelp, DisplayVersion}
use Rattle.sound_terms.specs.declared.Depth.{Depth}
use Rattle.sound_terms.specs.declared.Depth.TheVariants.{Sixteen, TwentyFour, ThirtyTwo}
use Rattle.job_terms.specs.declared.Order.{Order}
use Rattle.job_terms.specs.declared.Order.TheVariants.{ByTime, BySource}
pub use Rattle.commandline.specs.declared.choice.MediaReport.{MediaReport}
use Rattle.commandline.specs.declared.choice.MediaReport.TheVariants.{NoReport, Plain, WithDigests}

-- a required positional argument
abbrev pub place_rule : Text → Rule
place_rule id = record (new_rule id) { required = true }

-- an optional option with a value
abbrev pub option_rule : Text → Rule
option_rule id = record (new_rule id) { long = Some id; value_names = 1 }

-- an option with a default value
abbrev pub default_rule : Text → Text → Rule
default_rule id default = record (option_rule id) { defaults = default ∷ [] }

-- a flag: an option without a value
abbrev pub flag_rule : Text → Rule
flag_rule id = record (new_rule id) { long = Some id; action = Some SetTrue }

-- a command that takes a list and its media folder, with the flags `--all` and `--search`
abbrev pub over_media : Text → App
over_media name =
    let places = with_rule (with_rule (new_app name) (place_rule (codes "LIST"))) (place_rule (codes "MEDIA")) in
    with_rule (with_rule places (flag_rule (codes "all"))) (flag_rule (codes "search"))

-- the command `check`
abbrev pub check_shape : Shape
check_shape = (with_rule (over_media (codes "check")) (flag_rule (codes "report"))).top

-- a command with options for start and end time
abbrev pub with_times : App → App
with_times app = with_rule (with_rule app (option_rule (codes "from"))) (option_rule (codes "to"))

-- the command `show`
abbrev pub show_shape : Shape
show_shape =
    (with_times (with_rule (over_media (codes "show")) (default_rule (codes "handle") (codes "48000")))).top

-- a command that also takes an output folder
abbrev pub over_folders : Text → App
over_folders name = with_rule (over_media name) (place_rule (codes "OUT"))

-- the command `consolidate`
abbrev pub consolidate_shape : Shape
consolidate_shape =
    let handled = with_rule (over_folders (codes "consolidate")) (default_rule (codes "handle") (codes "48000")) in
    let reported = with_rule (with_rule handled (flag_rule (codes "report"))) (flag_rule (codes "digests")) in
    (with_rule reported (flag_rule (codes "verify"))).top

-- a command with options for start and end time and for the number of channels
abbrev pub with_range : App → App
with_range app = with_rule (with_times app) (option_rule (codes "channels"))

-- a command with the options of a rendering
abbrev pub with_choice : App → App
with_choice app =
    let sounding = with_rule (with_range app) (default_rule (codes "depth") (codes "24")) in
    with_rule (with_rule sounding (default_rule (codes "order") (codes "time"))) (flag_rule (codes "report"))

-- a rendering command of this name
abbrev pub rendering_shape : Text → Shape
rendering_shape name = (with_choice (over_folders name)).top

-- a command that takes two lists, each with its media folder
abbrev pub over_both : App
over_both =
    with_rule (with_rule (over_media (codes "compare")) (place_rule (codes "LIST2"))) (place_rule (codes "MEDIA2"))

-- the command `compare`
abbrev pub compare_shape : Shape
compare_shape = (with_range (with_rule over_both (flag_rule (codes "report")))).top

-- the program itself: it has a version, requires a command, and gets its arguments without the program name
abbrev pub top_app : App
top_app = record {
  top = record (new_app (codes "adlcons")).top {
    has_version = true;
    no_binary_name = true;
    arg_required_else_help = true;
    subcommand_required = true;
  };
  subs = [];
}

-- the command with a refusal number, or with `notice` and a notice number, as optional arguments
abbrev pub explain_shape : Shape
explain_shape =
    (with_rule (with_rule (new_app (codes "explain")) (new_rule (codes "WHAT"))) (new_rule (codes "NUMBER"))).top

-- the program with its seven commands; clap adds `help`
abbrev pub adlcons_app : App
adlcons_app =
    let checking = with_subcommand top_app check_shape in
    let rendering = with_subcommand (with_subcommand checking consolidate_shape) (rendering_shape (codes "render")) in
    let writing = with_subcommand rendering (rendering_shape (codes "resume")) in
    let comparing = with_subcommand writing compare_shape in
    with_subcommand (with_subcommand comparing show_shape) explain_shape

-- options of a rendering: start and end time as text, the number of channels, the bit depth, the job order, and
-- whether a report is written
pub record Chosen : Type 0 where
  pub from : Option Text
  pub to : Option Text
  pub channels : Option ℕ
  pub depth : Depth
  pub order : Order
  pub report : Bool

-- options of a comparison: start and end time as text, the number of channels, and whether the result is printed as
-- JSON
pub record Selected : Type 0 where
  pub from : Option Text
  pub to : Option Text
  pub channels : Option ℕ
  pub report : Bool

-- options of a picture: start and end time as text
pub record Drawn : Type 0 where
  pub from : Option Text
  pub to : Option Text

-- A request: a command with its list, media folder and output folder (which a resumed rendering continues to fill)
-- and its options; a comparison of two lists, each with its media folder; the report of a check, or a picture; or the
-- explanation of one or all refusal or notice numbers.
pub data Asked : Type 0 where
  Check : (list media : Text) → Asked
  Report : (list media : Text) → Asked
  Render : (list media out : Text) → (chosen : Chosen) → Asked
  Resume : (list media out : Text) → (chosen : Chosen) → Asked
  Consolidate : (list media out : Text) → (handle : ℕ) → (report : MediaReport) → Asked
  Compare : (list media other other_media : Text) → (selected : Selected) → Asked
  Show : (list media : Text) → (handle : ℕ) → (drawn : Drawn) → Asked
  Explain : (number : Option Text) → Asked
  ExplainNotice : (number : Option Text) → Asked

-- the flag is set
abbrev pub is_set : Text → List Row → Bool
is_set id rows = option_map_or (λ text. bytes_eq text (codes "true")) (first_of id rows) false

-- one or more decimal digits
abbrev pub is_numeral : Text → Bool
is_numeral digits = nat_le 1 (length digits) && list_all (λ digit. nat_lt (digit_value digit) 10) digits

-- the number from `low` to `high` in a decimal numeral with an optional plus sign
abbrev pub number_in : (low high : ℕ) → Text → Option ℕ
number_in low high text =
    let digits = without_leading_plus text in
    let value = digits_value 10 digits in
    if is_numeral digits && nat_le low value && nat_le value high then Some value else None

-- the handle, at most a day of samples
abbrev pub handle_of : List Row → Option ℕ
handle_of rows = option_and_then (number_in 0 4147200000) (first_of (codes "handle") rows)

-- the report of a consolidation; digests require a report
abbrev pub media_report : List Row → Option MediaReport
media_report rows =
    if is_set (codes "report") rows
    then Some (if is_set (codes "digests") rows then WithDigests else Plain)
    else if is_set (codes "digests") rows then None else Some NoReport

-- the bit depth that a text names: 16, 24 or 32
abbrev pub depth_in : Text → Option Depth
depth_in text =
    if bytes_eq text (codes "16") then Some Sixteen
    else if bytes_eq text (codes "24") then Some TwentyFour
    else if bytes_eq text (codes "32") then Some ThirtyTwo
    else None

-- the job order that a text names: `time` or `source`
abbrev pub order_in : Text → Option Order
order_in text =
    if bytes_eq text (codes "time") then Some ByTime
    else if bytes_eq text (codes "source") then Some BySource
    else None

-- no number of channels, or 1 to 64
abbrev pub channels_in : Option Text → Option (Option ℕ)
channels_in None = Some None
channels_in (Some text) = option_map (λ channels. Some channels) (number_in 1 64 text)

-- the options of a rendering, from its depth, channels and order
abbrev pub chosen_by : List Row → Depth → Option ℕ → Order → Chosen
chosen_by rows depth channels order = record {
  from = first_of (codes "from") rows;
  to = first_of (codes "to") rows;
  channels = channels;
  depth = depth;
  order = order;
  report = is_set (codes "report") rows;
}

-- the options of a rendering, from its depth and channels and the order among the arguments
abbrev pub ordered_by : List Row → Depth → Option ℕ → Option Chosen
ordered_by rows depth channels =
    option_map (chosen_by rows depth channels) (option_and_then order_in (first_of (codes "order") rows))

-- the options of a rendering, if all values are valid
abbrev pub chosen_of : List Row → Option Chosen
chosen_of rows =
    option_and_then (λ depth. option_and_then (ordered_by rows depth) (channels_in (first_of (codes "channels") rows)))
    (option_and_then depth_in (first_of (codes "depth") rows))

-- the options of a comparison, from its channels
abbrev pub selected_by : List Row → Option ℕ → Selected
selected_by rows channels = record {
  from = first_of (codes "from") rows;
  to = first_of (codes "to") rows;
  channels = channels;
  report = is_set (codes "report") rows;
}

-- the options of a comparison, if all values are valid
abbrev pub selected_of : List Row → Option Selected
selected_of rows = option_map (selected_by rows) (channels_in (first_of (codes "channels") rows))

-- the options of a picture
abbrev pub drawn_of : List Row → Drawn
drawn_of rows = record { from = first_of (codes "from") rows; to = first_of (codes "to") rows }

-- both lists are standard input
abbrev pub are_both_input : (list other : Text) → Bool
are_both_input list other = bytes_eq list (codes "-") && bytes_eq other (codes "-")

-- the request to compare two lists, at most one of which is standard input
abbrev pub compare_by : (list media other other_media : Text) → List Row → Option Asked
compare_by list media other other_media rows =
    if are_both_input list other then None
    else option_map (λ selected. Compare list media other other_media selected) (selected_of rows)

-- the request to compare a list with the one named by the further arguments
abbrev pub asked_compare : (list media : Text) → List Row → Option Asked
asked_compare list media rows =
    option_and_then (λ other. option_and_then (λ other_media. compare_by list media other other_media rows)
    (first_of (codes "MEDIA2") rows)) (first_of (codes "LIST2") rows)

-- the request of the named command that writes to a folder
abbrev pub asked_to : Text → (list media out : Text) → List Row → Option Asked
asked_to name list media out rows =
    if bytes_eq name (codes "render") then option_map (λ chosen. Render list media out chosen) (chosen_of rows)
    else if bytes_eq name (codes "resume") then option_map (λ chosen. Resume list media out chosen) (chosen_of rows)
    else if bytes_eq name (codes "consolidate")
    then option_and_then (λ handle. option_map (Consolidate list media out handle) (media_report rows)) (handle_of rows)
    else None

-- the request of the named command on a list and its media folder
abbrev pub asked_by : Text → (list media : Text) → List Row → Option Asked
asked_by name list media rows =
    if bytes_eq name (codes "check")
    then Some (if is_set (codes "report") rows then Report list media else Check list media)
    else if bytes_eq name (codes "show")
    then option_map (λ handle. Show list media handle (drawn_of rows)) (handle_of rows)
    else if bytes_eq name (codes "compare") then asked_compare list media rows
    else option_and_then (λ out. asked_to name list media out rows) (first_of (codes "OUT") rows)

-- the request of the named command on the list and media folder among its arguments
abbrev pub asked_over : Text → List Row → Option Asked
asked_over name rows = option_and_then (λ list. option_and_then (λ media. asked_by name list media rows)
    (first_of (codes "MEDIA") rows)) (first_of (codes "LIST") rows)

-- the request to explain a number; only after `notice` may a second argument follow
abbrev pub explained : (what number : Option Text) → Option Asked
explained None number = Some (Explain None)
explained (Some what) number =
    if bytes_eq what (codes "notice") then Some (ExplainNotice number)
    else option_map_or (λ _. None) number (Some (Explain (Some what)))

-- the request of the named command, from its arguments by name
abbrev pub asked : Text × List Row → Option Asked
asked (name, rows) =
    if bytes_eq name (codes "explain")
    then explained (first_of (codes "WHAT") rows) (first_of (codes "NUMBER") rows)
    else asked_over name rows

-- the kinds of error that these arguments may be refused with, apart from out of memory
unfoldable pub words_fault : List Text → Kinds
words_fault words = fault_of adlcons_app words

-- the request of the command that the arguments name
unfoldable pub named_by : List Text → Option Asked
named_by words = option_and_then asked (subcommand_of adlcons_app words)

-- the request, unless there is an error
abbrev pub unless_faulty : Kinds → Option Asked → Option Asked
unless_faulty [] named = named
unless_faulty (kind ∷ kinds) named = None

-- the request of the arguments, if they are valid
abbrev pub request_of : List Text → Option Asked
request_of words = unless_faulty (words_fault words) (named_by words)

-- the flag is set in the arguments of a command
abbrev pub is_flagged : Text → Text × List Row → Bool
is_flagged id (name, rows) = is_set id rows

-- the arguments name a command with this flag set
unfoldable pub has_flag : Text → List Text → Bool
has_flag id words = option_map_or (is_flagged id) (subcommand_of adlcons_app words) false

-- the arguments request a report of all faults of a list, not only the first
abbrev pub tells_all : List Text → Bool
tells_all = has_flag (codes "all")

-- the arguments request a comparison of the output with the input
abbrev pub verifies : List Text → Bool
verifies = has_flag (codes "verify")

-- the arguments request a search for source files in subfolders of the media folder
abbrev pub searches : List Text → Bool
searches = has_flag (codes "search")

-- help or the version, which is no mistake
abbrev pub is_shown : ErrorKind → Bool
is_shown DisplayHelp = true
is_shown DisplayVersion = true
is_shown _ = false

-- the arguments request help or the version
abbrev pub asks_for_help : List Text → Bool
asks_for_help words = list_any is_shown (words_fault words)

-- there are error kinds, and all of them are help or the version
abbrev pub are_shown : Kinds → Bool
are_shown [] = false
are_shown (kind ∷ kinds) = is_shown kind && list_all is_shown kinds

-- the arguments request help or the version and have no mistake (an argument after `help` may be one)
abbrev pub asks_for_help_alone : List Text → Bool
asks_for_help_alone words = are_shown (words_fault words)
