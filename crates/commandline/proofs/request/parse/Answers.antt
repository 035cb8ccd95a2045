use Rattle.std.proofs.Common.{◌≡◌, ◌∙◌, Option, List, false, ap, codes, inr, rules, sym}
use Rattle.std.specs.Option.{option_map_or}
use Rattle.std.proofs.lemmas.Result.{err_from_is_err_and}
use Rattle.clap.specs.Words.{App, Row, Text, subcommand_of, subcommand_rows_of}
use Rattle.clap.specs.Walk.{texts}
use Rattle.commandline.specs.CommandLine.{adlcons_app, has_flag, is_flagged}
use Rattle.commandline.proofs.CommandLineLaws.{helpless-by, is_free-adlcons, helpless_alone-by, is_simple-adlcons, mistaken-by, refused-by, shown-by, requested-by, has_flag-adlcons}
use Rattle.commandline.proofs.request.parse.Goals as goal

-- a flag in the matches is a flag among the arguments
flag_is : (id : Text) (app : App) (words : List Text) (rows : Option (Text × List Row)) → app ≡ adlcons_app
    → rows ≡ subcommand_of app words → option_map_or (is_flagged id) rows false ≡ has_flag id words
flag_is id app words rows same read =
    ap (λ (found : Option (Text × List Row)). option_map_or (is_flagged id) found false) read
    ∙ has_flag-adlcons id app words same

pub returns-in_err-matches : goal.returns-in_err-matches
returns-in_err-matches c =
    let words = texts c.args.words.now in
    let error = c.in_err-matches.field-0.0 in
    let app = c.in_ok-command.ensures in
    let kinds = c.in_err-matches.ensures.kinds (is_free-adlcons _ app) in
    let p = err_from_is_err_and c.from_residual-in_err-matches.result c.from_residual-in_err-matches.ensures.1 in
    rw (p.1, p.2) (record {
      read = search rules;
      all = search rules;
      search = search rules;
      verify = search rules;
      no_help = search rules;
      refused = refused-by _ words app error kinds;
      mistake = mistaken-by _ words app error kinds;
      help = shown-by _ words app error kinds;
    })

pub returns-clause-help : goal.returns-clause-help
returns-clause-help c = λ alone.
    let app = c.in_ok-command.ensures in
    let none = helpless_alone-by _ (texts c.args.words.now) app (c.in_ok-matches.ensures.kinds (is_free-adlcons _ app)) in
    absurd (cc)

pub returns-clause-refused : goal.returns-clause-refused
returns-clause-refused c =
    let app = c.in_ok-command.ensures in
    inr (requested-by _ (texts c.args.words.now) app (c.in_ok-matches.ensures.kinds (is_free-adlcons _ app))
    (subcommand_rows_of c.in_ok-matches.matches)
    (c.in_ok-matches.ensures.ok.2 (is_simple-adlcons _ app)).1 ∙ sym c.in-None.ensures)

pub returns-in-Some : goal.returns-in-Some
returns-in-Some c =
    let words = texts c.args.words.now in
    let app = c.in_ok-command.ensures in
    let none = c.in_ok-matches.ensures.kinds (is_free-adlcons _ app) in
    let rows = subcommand_rows_of c.in_ok-matches.matches in
    let read = (c.in_ok-matches.ensures.ok.2 (is_simple-adlcons _ app)).1 in
    record {
      read = requested-by _ words app none rows read ∙ sym c.in-Some.ensures;
      all = c.asks_for.ensures ∙ flag_is (codes "all") _ words rows app read;
      search = c.asks_for-in-Some.ensures ∙ flag_is (codes "search") _ words rows app read;
      verify = c.asks_for-in-Some-2.ensures ∙ flag_is (codes "verify") _ words rows app read;
      no_help = helpless-by _ words app none;
      refused = search rules;
      mistake = search rules;
      help = search rules;
    }
