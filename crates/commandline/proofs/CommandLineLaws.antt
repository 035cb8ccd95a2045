-- From clap's contract on parsing to the request of the arguments.
use Rattle.std.proofs.Common.{◌≡◌, ◌∙◌, ◌⊎◌, ℕ, inl, inr, Bool, true, false, ◌||◌, List, [], ◌∷◌, Option, None, Some, refl, ap, sym, subst, codes}
use Rattle.std.specs.Prelude.{option_and_then, option_map, if◌then◌else◌}
use Rattle.std.specs.List.{list_all, list_any}
use Rattle.std.specs.Option.{option_map_or}
use Rattle.std.specs.Str.{bytes_eq}
use Rattle.std.proofs.lemmas.Bool.{and_parts}
use Rattle.clap.specs.Words.{App, HasKind, IsAmong, Kinds, Row, Rule, Text, fault_of, first_of, first_value, is_simple, is_simple_and_free, kind_of, rows_of, subcommand_of, with_rule}
use Rattle.clap.specs.declared.parser.matches.Found.{Found}
use Rattle.clap.specs.declared.error.Error.{Error}
use Rattle.clap.specs.declared.error.ErrorKind.{ErrorKind}
use Rattle.clap.specs.declared.error.ErrorKind.TheVariants as kind
use Rattle.clap.proofs.OnLiterals.{clap_on_literals}
use Rattle.clap.proofs.WalkLemmas.{first_value-rows}
use Rattle.sound_terms.specs.declared.Depth.{Depth}
use Rattle.job_terms.specs.declared.Order.{Order}
use Rattle.commandline.specs.CommandLine.{Asked, Check, Compare, Report, Selected, Show, are_both_input, asked_compare, compare_by, selected_of, explained, adlcons_app, channels_in, chosen_of, depth_in, drawn_of, handle_of, number_in, order_in, ordered_by, asked, asked_over, asked_to, are_shown, asks_for_help, asks_for_help_alone, has_flag, is_flagged, is_set, is_shown, named_by, request_of, unless_faulty, words_fault}

-- one more rule in a command
pub one_more : (more app known : App) (rule : Rule) → more ≡ with_rule app rule → app ≡ known → more ≡ with_rule known rule
one_more more app known rule adds is = adds ∙ ap (λ (a : App). with_rule a rule) is

is_simple-here : is_simple adlcons_app ≡ true
unfolding clap_on_literals
is_simple-here = refl

is_free-here : is_simple_and_free adlcons_app ≡ true
unfolding clap_on_literals
is_free-here = refl

pub is_simple-adlcons : (app : App) → app ≡ adlcons_app → is_simple app ≡ true
is_simple-adlcons app same = ap is_simple same ∙ is_simple-here

pub is_free-adlcons : (app : App) → app ≡ adlcons_app → is_simple_and_free app ≡ true
is_free-adlcons app same = ap is_simple_and_free same ∙ is_free-here

pub fault_of-adlcons : (app : App) (words : List Text) → app ≡ adlcons_app → fault_of app words ≡ words_fault words
unfolding words_fault
fault_of-adlcons app words same = ap (λ (a : App). fault_of a words) same

pub subcommand_of-adlcons : (app : App) (words : List Text) → app ≡ adlcons_app
    → option_and_then asked (subcommand_of app words) ≡ named_by words
unfolding named_by
subcommand_of-adlcons app words same = ap (λ (a : App). option_and_then asked (subcommand_of a words)) same

pub has_flag-adlcons : (id : Text) (app : App) (words : List Text) → app ≡ adlcons_app
    → option_map_or (is_flagged id) (subcommand_of app words) false ≡ has_flag id words
unfolding has_flag
has_flag-adlcons id app words same = ap (λ (a : App). option_map_or (is_flagged id) (subcommand_of a words) false) same

-- a value by name among the rows of a parse
pub row_of_value : (found : Found) (id : Text) (value : Option Text) → value ≡ first_value found id
    → first_of id (rows_of found) ≡ value
row_of_value found id value e = sym (first_value-rows found id) ∙ sym e

pub asked-without_list : (name : Text) (found : Found) → None ≡ first_value found (codes "LIST")
    → asked_over name (rows_of found) ≡ None
asked-without_list name found missing = rw (row_of_value found (codes "LIST") None missing) refl

pub asked-without_media : (name list : Text) (found : Found) → Some list ≡ first_value found (codes "LIST")
    → None ≡ first_value found (codes "MEDIA") → asked_over name (rows_of found) ≡ None
asked-without_media name list found one missing =
    rw (row_of_value found (codes "LIST") (Some list) one, row_of_value found (codes "MEDIA") None missing) refl

pub asked-check : (name list media : Text) (found : Found) (request : Asked) → bytes_eq name (codes "check") ≡ true
    → Some list ≡ first_value found (codes "LIST") → Some media ≡ first_value found (codes "MEDIA")
    → request ≡ (if is_set (codes "report") (rows_of found) then Report list media else Check list media)
    → asked_over name (rows_of found) ≡ Some request
asked-check name list media found request named one two is =
    rw (
      row_of_value found (codes "LIST") (Some list) one,
      row_of_value found (codes "MEDIA") (Some media) two,
      named,
      is,
    ) refl

pub asked-show : (name list media : Text) (found : Found) → bytes_eq name (codes "check") ≡ false
    → bytes_eq name (codes "show") ≡ true
    → Some list ≡ first_value found (codes "LIST") → Some media ≡ first_value found (codes "MEDIA")
    → asked_over name (rows_of found)
    ≡ option_map (λ handle. Show list media handle (drawn_of (rows_of found))) (handle_of (rows_of found))
asked-show name list media found other named one two =
    rw (
      row_of_value found (codes "LIST") (Some list) one,
      row_of_value found (codes "MEDIA") (Some media) two,
      other,
      named,
    ) refl

pub asked-compare : (name list media : Text) (found : Found) → bytes_eq name (codes "check") ≡ false
    → bytes_eq name (codes "show") ≡ false → bytes_eq name (codes "compare") ≡ true
    → Some list ≡ first_value found (codes "LIST") → Some media ≡ first_value found (codes "MEDIA")
    → asked_over name (rows_of found) ≡ asked_compare list media (rows_of found)
asked-compare name list media found other another named one two =
    rw (
      row_of_value found (codes "LIST") (Some list) one,
      row_of_value found (codes "MEDIA") (Some media) two,
      other,
      another,
      named,
    ) refl

pub compared-without_list : (list media : Text) (found : Found) → None ≡ first_value found (codes "LIST2")
    → asked_compare list media (rows_of found) ≡ None
compared-without_list list media found missing = rw (row_of_value found (codes "LIST2") None missing) refl

pub compared-without_media : (list media other : Text) (found : Found) → Some other ≡ first_value found (codes "LIST2")
    → None ≡ first_value found (codes "MEDIA2") → asked_compare list media (rows_of found) ≡ None
compared-without_media list media other found one missing =
    rw (
      row_of_value found (codes "LIST2") (Some other) one,
      row_of_value found (codes "MEDIA2") None missing,
    ) refl

-- the request to compare, if both further paths are among the arguments
pub compared-all : (list media other other_media : Text) (found : Found)
    → Some other ≡ first_value found (codes "LIST2") → Some other_media ≡ first_value found (codes "MEDIA2")
    → asked_compare list media (rows_of found) ≡ compare_by list media other other_media (rows_of found)
compared-all list media other other_media found one two =
    rw (
      row_of_value found (codes "LIST2") (Some other) one,
      row_of_value found (codes "MEDIA2") (Some other_media) two,
    ) refl

pub compared-both_input : (list media other other_media : Text) (rows : List Row) → are_both_input list other ≡ true
    → compare_by list media other other_media rows ≡ None
compared-both_input list media other other_media rows both = rw both refl

pub compared-one_input : (list media other other_media : Text) (rows : List Row) (selected : Option Selected)
    → are_both_input list other ≡ false → selected ≡ selected_of rows
    → compare_by list media other other_media rows
    ≡ option_map (λ selected. Compare list media other other_media selected) selected
compared-one_input list media other other_media rows selected one chosen = rw (one, chosen) refl

pub selected-bad_channels : (found : Found) (channels : Option Text) → channels ≡ first_value found (codes "channels")
    → None ≡ channels_in channels → selected_of (rows_of found) ≡ None
selected-bad_channels found channels named bad = rw (row_of_value found (codes "channels") channels named, ← bad) refl

pub selected-all : (found : Found) (channels from to : Option Text) (count : Option ℕ) (report : Bool)
    → channels ≡ first_value found (codes "channels") → Some count ≡ channels_in channels
    → from ≡ first_value found (codes "from") → to ≡ first_value found (codes "to")
    → report ≡ is_set (codes "report") (rows_of found)
    → selected_of (rows_of found) ≡ Some (record { from = from; to = to; channels = count; report = report })
selected-all found channels from to count report named is begin end reports =
    rw (
      reports,
      row_of_value found (codes "channels") channels named,
      ← is,
      row_of_value found (codes "from") from begin,
      row_of_value found (codes "to") to end,
    ) refl

pub drawn-all : (found : Found) (from to : Option Text)
    → from ≡ first_value found (codes "from") → to ≡ first_value found (codes "to")
    → record { from = from; to = to } ≡ drawn_of (rows_of found)
drawn-all found from to begin end =
    rw (row_of_value found (codes "from") from begin, row_of_value found (codes "to") to end) refl

pub asked-without_out : (name list media : Text) (found : Found) → bytes_eq name (codes "check") ≡ false
    → bytes_eq name (codes "show") ≡ false → bytes_eq name (codes "compare") ≡ false
    → Some list ≡ first_value found (codes "LIST")
    → Some media ≡ first_value found (codes "MEDIA") → None ≡ first_value found (codes "OUT")
    → asked_over name (rows_of found) ≡ None
asked-without_out name list media found other another third one two missing =
    rw (
      row_of_value found (codes "LIST") (Some list) one,
      row_of_value found (codes "MEDIA") (Some media) two,
      other,
      another,
      third,
      row_of_value found (codes "OUT") None missing,
    ) refl

pub asked-all : (name list media out : Text) (found : Found) → bytes_eq name (codes "check") ≡ false
    → bytes_eq name (codes "show") ≡ false → bytes_eq name (codes "compare") ≡ false
    → Some list ≡ first_value found (codes "LIST")
    → Some media ≡ first_value found (codes "MEDIA") → Some out ≡ first_value found (codes "OUT")
    → asked_over name (rows_of found) ≡ asked_to name list media out (rows_of found)
asked-all name list media out found other another third one two three =
    rw (
      row_of_value found (codes "LIST") (Some list) one,
      row_of_value found (codes "MEDIA") (Some media) two,
      other,
      another,
      third,
      row_of_value found (codes "OUT") (Some out) three,
    ) refl

pub asked-explain : (name : Text) (found : Found) (what number : Option Text) → bytes_eq name (codes "explain") ≡ true
    → what ≡ first_value found (codes "WHAT") → number ≡ first_value found (codes "NUMBER")
    → asked (name, rows_of found) ≡ explained what number
asked-explain name found what number named one two =
    rw (named, row_of_value found (codes "WHAT") what one, row_of_value found (codes "NUMBER") number two) refl

pub set_read : (found : Found) (id : Text) (value : Option Text) → value ≡ first_value found id
    → is_set id (rows_of found) ≡ option_map_or (λ text. bytes_eq text (codes "true")) value false
set_read found id value given = rw (row_of_value found id value given) refl

pub handle_read : (found : Found) (text : Text) → Some text ≡ first_value found (codes "handle")
    → handle_of (rows_of found) ≡ number_in 0 4147200000 text
handle_read found text given = rw (row_of_value found (codes "handle") (Some text) given) refl

pub chosen-without_depth : (found : Found) → None ≡ first_value found (codes "depth") → chosen_of (rows_of found) ≡ None
chosen-without_depth found missing = rw (row_of_value found (codes "depth") None missing) refl

pub chosen-bad_depth : (found : Found) (text : Text) → Some text ≡ first_value found (codes "depth")
    → None ≡ depth_in text → chosen_of (rows_of found) ≡ None
chosen-bad_depth found text given bad = rw (row_of_value found (codes "depth") (Some text) given, ← bad) refl

pub chosen-bad_channels : (found : Found) (text : Text) (depth : Depth) (channels : Option Text)
    → Some text ≡ first_value found (codes "depth") → Some depth ≡ depth_in text
    → channels ≡ first_value found (codes "channels") → None ≡ channels_in channels → chosen_of (rows_of found) ≡ None
chosen-bad_channels found text depth channels given deep named bad =
    rw (
      row_of_value found (codes "depth") (Some text) given,
      ← deep,
      row_of_value found (codes "channels") channels named,
      ← bad,
    ) refl

-- the options of a rendering, if depth and channels are valid
pub chosen-ordered : (found : Found) (text : Text) (depth : Depth) (channels : Option Text) (count : Option ℕ)
    → Some text ≡ first_value found (codes "depth")
    → Some depth ≡ depth_in text → channels ≡ first_value found (codes "channels") → Some count ≡ channels_in channels
    → chosen_of (rows_of found) ≡ ordered_by (rows_of found) depth count
chosen-ordered found text depth channels count given deep named read =
    rw (
      row_of_value found (codes "depth") (Some text) given,
      ← deep,
      row_of_value found (codes "channels") channels named,
      ← read,
    ) refl

pub ordered-without_order : (found : Found) (depth : Depth) (count : Option ℕ)
    → None ≡ first_value found (codes "order")
    → ordered_by (rows_of found) depth count ≡ None
ordered-without_order found depth count missing = rw (row_of_value found (codes "order") None missing) refl

pub ordered-bad_order : (found : Found) (depth : Depth) (count : Option ℕ) (text : Text)
    → Some text ≡ first_value found (codes "order") → None ≡ order_in text
    → ordered_by (rows_of found) depth count ≡ None
ordered-bad_order found depth count text given bad =
    rw (row_of_value found (codes "order") (Some text) given, ← bad) refl

pub ordered-all : (found : Found) (depth : Depth) (count : Option ℕ) (text : Text) (order : Order)
    (from to : Option Text) (report : Bool)
    → Some text ≡ first_value found (codes "order") → Some order ≡ order_in text
    → from ≡ first_value found (codes "from") → to ≡ first_value found (codes "to")
    → report ≡ is_set (codes "report") (rows_of found)
    → ordered_by (rows_of found) depth count
    ≡ Some (record { from = from; to = to; channels = count; depth = depth; order = order; report = report })
ordered-all found depth count text order from to report given named first last asks =
    rw (
      row_of_value found (codes "order") (Some text) given,
      ← named,
      row_of_value found (codes "from") from first,
      row_of_value found (codes "to") to last,
      asks,
    ) refl

-- ---- clap's contract on errors

among-refused : (kinds : Kinds) (kind : ErrorKind) (named : Option Asked) → IsAmong kind kinds
    → unless_faulty kinds named ≡ None
among-refused [] kind named bad = absurd bad
among-refused (k ∷ ks) kind named among = refl

neither : (x y : Bool) → (x || y) ≡ false → (x ≡ false) × (y ≡ false)
neither true y e = cc
neither false y e = (refl, e)

among-shown : (kinds : Kinds) (kind : ErrorKind) → IsAmong kind kinds → list_any is_shown kinds ≡ false
    → is_shown kind ≡ false
among-shown [] kind bad none = absurd bad
among-shown (k ∷ ks) kind (inl same) none = rw same (neither (is_shown k) (list_any is_shown ks) none).0
among-shown (k ∷ ks) kind (inr among) none =
    among-shown ks kind among (neither (is_shown k) (list_any is_shown ks) none).1

among-all_shown : (kinds : Kinds) (kind : ErrorKind) → IsAmong kind kinds → list_all is_shown kinds ≡ true
    → is_shown kind ≡ true
among-all_shown [] kind bad all = absurd bad
among-all_shown (k ∷ ks) kind (inl same) all = rw same (and_parts (is_shown k) (list_all is_shown ks) all).0
among-all_shown (k ∷ ks) kind (inr among) all =
    among-all_shown ks kind among (and_parts (is_shown k) (list_all is_shown ks) all).1

among-alone : (kinds : Kinds) (kind : ErrorKind) → IsAmong kind kinds → are_shown kinds ≡ true → is_shown kind ≡ true
among-alone [] kind bad all = absurd bad
among-alone (k ∷ ks) kind among all = among-all_shown (k ∷ ks) kind among all

module _ (app : App) (words : List Text) (same : app ≡ adlcons_app) where
  module _ (error : Error) where
    -- an error has one of the kinds of the arguments, or is out of memory
    faulty : HasKind (fault_of app words) error → HasKind (words_fault words) error
    faulty = subst (λ kinds. HasKind kinds error) (fault_of-adlcons app words same)

    -- on an error other than out of memory the arguments make no request
    pub refused-by : HasKind (fault_of app words) error
        → (kind_of error ≡ kind.OutOfMemory) ⊎ (request_of words ≡ None)
    refused-by has = elim (faulty has) [
      | inl memory ↦ inl memory
      | inr among ↦ inr (among-refused (words_fault words) (kind_of error) (named_by words) among)
    ]

    -- if the arguments don't request help, the error isn't help
    pub mistaken-by : HasKind (fault_of app words) error → asks_for_help words ≡ false
        → is_shown (kind_of error) ≡ false
    mistaken-by has none = elim (faulty has) [
      | inl memory ↦ ap is_shown memory
      | inr among ↦ among-shown (words_fault words) (kind_of error) among none
    ]

    -- if the arguments request only help, the error is help
    pub shown-by : HasKind (fault_of app words) error → asks_for_help_alone words ≡ true
        → (kind_of error ≡ kind.OutOfMemory) ⊎ (is_shown (kind_of error) ≡ true)
    shown-by has alone = elim (faulty has) [
      | inl memory ↦ inl memory
      | inr among ↦ inr (among-alone (words_fault words) (kind_of error) among alone)
    ]

  module _ (none : fault_of app words ≡ []) where
    -- the parsed arguments have no error, so the arguments have none
    faultless : words_fault words ≡ []
    faultless = sym (fault_of-adlcons app words same) ∙ none

    -- the arguments don't request help
    pub helpless-by : asks_for_help words ≡ false
    helpless-by = ap (list_any is_shown) faultless

    pub helpless_alone-by : asks_for_help_alone words ≡ false
    helpless_alone-by = ap are_shown faultless

    -- the matches have the request of the arguments
    pub requested-by : (rows : Option (Text × List Row)) → rows ≡ subcommand_of app words
        → request_of words ≡ option_and_then asked rows
    requested-by rows read =
        ap (λ (kinds : Kinds). unless_faulty kinds (named_by words)) faultless
        ∙ sym (ap (option_and_then asked) read ∙ subcommand_of-adlcons app words same)
