-- Worked examples of arguments and their requests.
use Rattle.std.specs.Prelude.{◌≡◌, [], ◌∷◌, None, Some, refl, codes, true, false}
use Rattle.clap.specs.declared.error.ErrorKind.TheVariants.{DisplayHelp, DisplayHelpOnMissingArgumentOrSubcommand, DisplayVersion, InvalidSubcommand, MissingRequiredArgument, TooManyValues, UnknownArgument}
use Rattle.clap.proofs.OnLiterals.{clap_on_literals}
use Rattle.sound_terms.specs.declared.Depth.TheVariants.{Sixteen, TwentyFour, ThirtyTwo}
use Rattle.job_terms.specs.declared.Order.TheVariants.{ByTime, BySource}
use Rattle.commandline.specs.declared.choice.MediaReport.TheVariants.{NoReport, Plain, WithDigests}
use Rattle.commandline.specs.CommandLine.{Check, Chosen, Compare, Render, Report, Resume, Consolidate, Show, Explain, ExplainNotice, asks_for_help, asks_for_help_alone, has_flag, named_by, request_of, searches, tells_all, verifies, words_fault}

-- ---- valid arguments

-- the whole range, on all channels, at 24 bits, in order of time, without a report
abbrev default_choice : Chosen
default_choice = record { from = None; to = None; channels = None; depth = TwentyFour; order = ByTime; report = false }

checks : request_of (codes "check" ∷ codes "L.adl" ∷ codes "M" ∷ []) ≡ Some (Check (codes "L.adl") (codes "M"))
unfolding words_fault named_by clap_on_literals
checks = refl

chooses : request_of (codes "render" ∷ codes "L" ∷ codes "M" ∷ codes "O"
    ∷ codes "--depth" ∷ codes "16" ∷ codes "--channels=2" ∷ codes "--from" ∷ codes "x" ∷ [])
    ≡ Some (Render (codes "L") (codes "M") (codes "O")
    (record { from = Some (codes "x"); to = None; channels = Some 2; depth = Sixteen; order = ByTime; report = false }))
unfolding words_fault named_by clap_on_literals
chooses = refl

orders : request_of (codes "render" ∷ codes "L" ∷ codes "M" ∷ codes "O" ∷ codes "--order" ∷ codes "source" ∷ [])
    ≡ Some (Render (codes "L") (codes "M") (codes "O")
    (record { from = None; to = None; channels = None; depth = TwentyFour; order = BySource; report = false }))
unfolding words_fault named_by clap_on_literals
orders = refl

orders_by_time : request_of (codes "render" ∷ codes "--order=time" ∷ codes "L" ∷ codes "M" ∷ codes "O" ∷ [])
    ≡ Some (Render (codes "L") (codes "M") (codes "O") default_choice)
unfolding words_fault named_by clap_on_literals
orders_by_time = refl

handles : request_of (codes "consolidate" ∷ codes "--handle" ∷ codes "0" ∷ codes "L" ∷ codes "M" ∷ codes "O" ∷ [])
    ≡ Some (Consolidate (codes "L") (codes "M") (codes "O") 0 NoReport)
unfolding words_fault named_by clap_on_literals
handles = refl

-- ---- all faults, not only the first

checks_all : request_of (codes "check" ∷ codes "--all" ∷ codes "L.adl" ∷ codes "M" ∷ [])
    ≡ Some (Check (codes "L.adl") (codes "M"))
unfolding words_fault named_by clap_on_literals
checks_all = refl

tells_all_asked : tells_all (codes "check" ∷ codes "L.adl" ∷ codes "M" ∷ codes "--all" ∷ []) ≡ true
unfolding has_flag clap_on_literals
tells_all_asked = refl

tells_all_unasked : tells_all (codes "check" ∷ codes "L.adl" ∷ codes "M" ∷ []) ≡ false
unfolding has_flag clap_on_literals
tells_all_unasked = refl

renders_all : tells_all (codes "render" ∷ codes "L" ∷ codes "M" ∷ codes "O" ∷ codes "--all" ∷ []) ≡ true
unfolding has_flag clap_on_literals
renders_all = refl

searches_asked : searches (codes "consolidate" ∷ codes "L" ∷ codes "M" ∷ codes "O" ∷ codes "--search" ∷ []) ≡ true
unfolding has_flag clap_on_literals
searches_asked = refl

searches_unasked : searches (codes "check" ∷ codes "L.adl" ∷ codes "M" ∷ codes "--all" ∷ []) ≡ false
unfolding has_flag clap_on_literals
searches_unasked = refl

verifies_asked : verifies (codes "consolidate" ∷ codes "L" ∷ codes "M" ∷ codes "O" ∷ codes "--verify" ∷ []) ≡ true
unfolding has_flag clap_on_literals
verifies_asked = refl

verifies_unasked : verifies (codes "consolidate" ∷ codes "L" ∷ codes "M" ∷ codes "O" ∷ []) ≡ false
unfolding has_flag clap_on_literals
verifies_unasked = refl

-- ---- invalid option values, which are mistakes

no_channel : request_of (codes "render" ∷ codes "L" ∷ codes "M" ∷ codes "O" ∷ codes "--channels" ∷ codes "65" ∷ [])
    ≡ None
unfolding words_fault named_by clap_on_literals
no_channel = refl

no_depth : request_of (codes "render" ∷ codes "L" ∷ codes "M" ∷ codes "O" ∷ codes "--depth" ∷ codes "20" ∷ []) ≡ None
unfolding words_fault named_by clap_on_literals
no_depth = refl

no_order : request_of (codes "render" ∷ codes "L" ∷ codes "M" ∷ codes "O" ∷ codes "--order" ∷ codes "Time" ∷ []) ≡ None
unfolding words_fault named_by clap_on_literals
no_order = refl

long_handle : request_of (codes "consolidate" ∷ codes "L" ∷ codes "M" ∷ codes "O"
    ∷ codes "--handle" ∷ codes "4147200001" ∷ []) ≡ None
unfolding words_fault named_by clap_on_literals
long_handle = refl

resumed_depth : request_of (codes "resume" ∷ codes "L" ∷ codes "M" ∷ codes "O" ∷ codes "--depth" ∷ codes "20" ∷ [])
    ≡ None
unfolding words_fault named_by clap_on_literals
resumed_depth = refl

-- ---- commands and paths

renders : request_of (codes "render" ∷ codes "L.adl" ∷ codes "M" ∷ codes "O" ∷ [])
    ≡ Some (Render (codes "L.adl") (codes "M") (codes "O") default_choice)
unfolding words_fault named_by clap_on_literals
renders = refl

resumes : request_of (codes "resume" ∷ codes "L.adl" ∷ codes "M" ∷ codes "O" ∷ codes "--depth" ∷ codes "32" ∷ [])
    ≡ Some (Resume (codes "L.adl") (codes "M") (codes "O")
    (record { from = None; to = None; channels = None; depth = ThirtyTwo; order = ByTime; report = false }))
unfolding words_fault named_by clap_on_literals
resumes = refl

consolidates : request_of (codes "consolidate" ∷ codes "L.adl" ∷ codes "M" ∷ codes "O" ∷ [])
    ≡ Some (Consolidate (codes "L.adl") (codes "M") (codes "O") 48000 NoReport)
unfolding words_fault named_by clap_on_literals
consolidates = refl

-- `-` is an ordinary argument and means standard input
consolidates_input : request_of (codes "consolidate" ∷ codes "-" ∷ codes "M" ∷ codes "O" ∷ [])
    ≡ Some (Consolidate (codes "-") (codes "M") (codes "O") 48000 NoReport)
unfolding words_fault named_by clap_on_literals
consolidates_input = refl

-- after `--` an argument may begin with `-`
renders_dashed : request_of (codes "render" ∷ codes "--" ∷ codes "-L" ∷ codes "-M" ∷ codes "--help" ∷ [])
    ≡ Some (Render (codes "-L") (codes "-M") (codes "--help") default_choice)
unfolding words_fault named_by clap_on_literals
renders_dashed = refl

renders_any_text : request_of (codes "render" ∷ codes "A B.adl" ∷ codes "" ∷ codes "a=b" ∷ [])
    ≡ Some (Render (codes "A B.adl") (codes "") (codes "a=b") default_choice)
unfolding words_fault named_by clap_on_literals
renders_any_text = refl

explains : request_of (codes "explain" ∷ codes "46" ∷ []) ≡ Some (Explain (Some (codes "46")))
unfolding words_fault named_by clap_on_literals
explains = refl

explains_notice : request_of (codes "explain" ∷ codes "notice" ∷ codes "3" ∷ []) ≡ Some (ExplainNotice (Some (codes "3")))
unfolding words_fault named_by clap_on_literals
explains_notice = refl

explains_notices : request_of (codes "explain" ∷ codes "notice" ∷ []) ≡ Some (ExplainNotice None)
unfolding words_fault named_by clap_on_literals
explains_notices = refl

explains_all : request_of (codes "explain" ∷ []) ≡ Some (Explain None)
unfolding words_fault named_by clap_on_literals
explains_all = refl

reports : request_of (codes "check" ∷ codes "L.adl" ∷ codes "M" ∷ codes "--report" ∷ [])
    ≡ Some (Report (codes "L.adl") (codes "M"))
unfolding words_fault named_by clap_on_literals
reports = refl

consolidates_with_report : request_of (codes "consolidate" ∷ codes "--report" ∷ codes "L" ∷ codes "M" ∷ codes "O" ∷ [])
    ≡ Some (Consolidate (codes "L") (codes "M") (codes "O") 48000 Plain)
unfolding words_fault named_by clap_on_literals
consolidates_with_report = refl

consolidates_with_digests : request_of (codes "consolidate" ∷ codes "--report" ∷ codes "--digests" ∷ codes "L"
    ∷ codes "M" ∷ codes "O" ∷ [])
    ≡ Some (Consolidate (codes "L") (codes "M") (codes "O") 48000 WithDigests)
unfolding words_fault named_by clap_on_literals
consolidates_with_digests = refl

-- digests require a report
digests_without_report : request_of (codes "consolidate" ∷ codes "--digests" ∷ codes "L" ∷ codes "M" ∷ codes "O" ∷ [])
    ≡ None
unfolding words_fault named_by clap_on_literals
digests_without_report = refl

compares : request_of (codes "compare" ∷ codes "L" ∷ codes "M" ∷ codes "L2" ∷ codes "M2" ∷ [])
    ≡ Some (Compare (codes "L") (codes "M") (codes "L2") (codes "M2")
    (record { from = None; to = None; channels = None; report = false }))
unfolding words_fault named_by clap_on_literals
compares = refl

compares_with_report : request_of (codes "compare" ∷ codes "L" ∷ codes "M" ∷ codes "L2" ∷ codes "M2"
    ∷ codes "--report" ∷ [])
    ≡ Some (Compare (codes "L") (codes "M") (codes "L2") (codes "M2")
    (record { from = None; to = None; channels = None; report = true }))
unfolding words_fault named_by clap_on_literals
compares_with_report = refl

compares_input : request_of (codes "compare" ∷ codes "L" ∷ codes "M" ∷ codes "-" ∷ codes "M2"
    ∷ codes "--to=x" ∷ codes "--channels" ∷ codes "64" ∷ [])
    ≡ Some (Compare (codes "L") (codes "M") (codes "-") (codes "M2")
    (record { from = None; to = Some (codes "x"); channels = Some 64; report = false }))
unfolding words_fault named_by clap_on_literals
compares_input = refl

-- at most one of the lists is standard input
compares_input_twice : request_of (codes "compare" ∷ codes "-" ∷ codes "M" ∷ codes "-" ∷ codes "M2" ∷ []) ≡ None
unfolding words_fault named_by clap_on_literals
compares_input_twice = refl

shows : request_of (codes "show" ∷ codes "L.adl" ∷ codes "M" ∷ [])
    ≡ Some (Show (codes "L.adl") (codes "M") 48000 (record { from = None; to = None }))
unfolding words_fault named_by clap_on_literals
shows = refl

shows_part : request_of (codes "show" ∷ codes "L" ∷ codes "M" ∷ codes "--to=y" ∷ codes "--from" ∷ codes "x" ∷ [])
    ≡ Some (Show (codes "L") (codes "M") 48000 (record { from = Some (codes "x"); to = Some (codes "y") }))
unfolding words_fault named_by clap_on_literals
shows_part = refl

renders_with_report : request_of (codes "render" ∷ codes "L" ∷ codes "M" ∷ codes "O" ∷ codes "--report" ∷ [])
    ≡ Some (Render (codes "L") (codes "M") (codes "O") (record default_choice { report = true }))
unfolding words_fault named_by clap_on_literals
renders_with_report = refl

resumes_with_report : request_of (codes "resume" ∷ codes "--report" ∷ codes "L" ∷ codes "M" ∷ codes "O" ∷ [])
    ≡ Some (Resume (codes "L") (codes "M") (codes "O") (record default_choice { report = true }))
unfolding words_fault named_by clap_on_literals
resumes_with_report = refl

-- ---- mistakes

digests_of_rendering : words_fault (codes "render" ∷ codes "L" ∷ codes "M" ∷ codes "O" ∷ codes "--digests" ∷ [])
    ≡ UnknownArgument ∷ []
unfolding words_fault clap_on_literals
digests_of_rendering = refl

too_few : words_fault (codes "render" ∷ codes "L.adl" ∷ codes "M" ∷ []) ≡ MissingRequiredArgument ∷ []
unfolding words_fault clap_on_literals
too_few = refl

none_behind : words_fault (codes "consolidate" ∷ []) ≡ MissingRequiredArgument ∷ []
unfolding words_fault clap_on_literals
none_behind = refl

too_many : words_fault (codes "render" ∷ codes "L.adl" ∷ codes "M" ∷ codes "O" ∷ codes "P" ∷ []) ≡ UnknownArgument ∷ []
unfolding words_fault clap_on_literals
too_many = refl

unknown_command : words_fault (codes "relink" ∷ codes "L.adl" ∷ codes "M" ∷ [])
    ≡ UnknownArgument ∷ InvalidSubcommand ∷ []
unfolding words_fault clap_on_literals
unknown_command = refl

capital_command : words_fault (codes "Render" ∷ codes "L.adl" ∷ codes "M" ∷ codes "O" ∷ [])
    ≡ UnknownArgument ∷ InvalidSubcommand ∷ []
unfolding words_fault clap_on_literals
capital_command = refl

two_numbers : request_of (codes "explain" ∷ codes "13" ∷ codes "46" ∷ []) ≡ None
unfolding words_fault named_by clap_on_literals
two_numbers = refl

all_with_value : words_fault (codes "check" ∷ codes "--all=1" ∷ codes "L.adl" ∷ codes "M" ∷ []) ≡ TooManyValues ∷ []
unfolding words_fault clap_on_literals
all_with_value = refl

three_words : words_fault (codes "explain" ∷ codes "notice" ∷ codes "3" ∷ codes "4" ∷ []) ≡ UnknownArgument ∷ []
unfolding words_fault clap_on_literals
three_words = refl

unknown_option : words_fault (codes "render" ∷ codes "L.adl" ∷ codes "M" ∷ codes "O"
    ∷ codes "--loud" ∷ codes "time" ∷ []) ≡ UnknownArgument ∷ []
unfolding words_fault clap_on_literals
unknown_option = refl

order_of_consolidation : words_fault (codes "consolidate" ∷ codes "L.adl" ∷ codes "M" ∷ codes "O"
    ∷ codes "--order" ∷ codes "time" ∷ []) ≡ UnknownArgument ∷ []
unfolding words_fault clap_on_literals
order_of_consolidation = refl

unknown_short_option : words_fault (codes "-x" ∷ codes "render" ∷ codes "L.adl" ∷ codes "M" ∷ codes "O" ∷ [])
    ≡ UnknownArgument ∷ []
unfolding words_fault clap_on_literals
unknown_short_option = refl

version_of_command : words_fault (codes "render" ∷ codes "--version" ∷ []) ≡ UnknownArgument ∷ []
unfolding words_fault clap_on_literals
version_of_command = refl

no_words : words_fault [] ≡ DisplayHelpOnMissingArgumentOrSubcommand ∷ []
unfolding words_fault clap_on_literals
no_words = refl

-- a mistake makes no request, and no request for help
too_few_asks : request_of (codes "render" ∷ codes "L.adl" ∷ codes "M" ∷ []) ≡ None
unfolding words_fault named_by clap_on_literals
too_few_asks = refl

too_few_helps : asks_for_help (codes "render" ∷ codes "L.adl" ∷ codes "M" ∷ []) ≡ false
unfolding words_fault clap_on_literals
too_few_helps = refl

no_words_help : asks_for_help [] ≡ false
unfolding words_fault clap_on_literals
no_words_help = refl

-- ---- help and version

help : words_fault (codes "--help" ∷ []) ≡ DisplayHelp ∷ []
unfolding words_fault clap_on_literals
help = refl

short_help : words_fault (codes "-h" ∷ []) ≡ DisplayHelp ∷ []
unfolding words_fault clap_on_literals
short_help = refl

help_of_render : words_fault (codes "render" ∷ codes "--help" ∷ []) ≡ DisplayHelp ∷ []
unfolding words_fault clap_on_literals
help_of_render = refl

help_of_consolidate : words_fault (codes "consolidate" ∷ codes "L.adl" ∷ codes "--help" ∷ []) ≡ DisplayHelp ∷ []
unfolding words_fault clap_on_literals
help_of_consolidate = refl

version : words_fault (codes "--version" ∷ []) ≡ DisplayVersion ∷ []
unfolding words_fault clap_on_literals
version = refl

help_asks : asks_for_help (codes "render" ∷ codes "--help" ∷ []) ≡ true
unfolding words_fault clap_on_literals
help_asks = refl

-- `help` requests help; an argument after it that names no command is a mistake
help_as_command : words_fault (codes "help" ∷ []) ≡ DisplayHelp ∷ InvalidSubcommand ∷ []
unfolding words_fault clap_on_literals
help_as_command = refl

help_as_command_asks : asks_for_help (codes "help" ∷ []) ≡ true
unfolding words_fault clap_on_literals
help_as_command_asks = refl

help_alone : asks_for_help_alone (codes "render" ∷ codes "--help" ∷ []) ≡ true
unfolding words_fault clap_on_literals
help_alone = refl

help_with_a_word : asks_for_help_alone (codes "help" ∷ codes "me" ∷ []) ≡ false
unfolding words_fault clap_on_literals
help_with_a_word = refl
