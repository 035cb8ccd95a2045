use Rattle.std.proofs.Common.{◌∙◌, ap, true}
use Rattle.std.proofs.lemmas.Result.{IfOk-weaker}
use Rattle.clap.specs.Simple.{app_of_fields, on_top}
use Rattle.commandline.proofs.words.top_command.Goals as goal

pub returns : goal.returns
returns c =
    let versioned = ap app_of_fields c.version.ensures
    ∙ ap (on_top (λ s. record s { has_version = true })) c.told.ensures.app in
    let bare = ap app_of_fields c.no_binary_name.ensures
    ∙ ap (on_top (λ s. record s { no_binary_name = true })) versioned in
    let helpful = ap app_of_fields c.arg_required_else_help.ensures
    ∙ ap (on_top (λ s. record s { arg_required_else_help = true })) bare in
    let whole = ap app_of_fields c.subcommand_required.ensures
    ∙ ap (on_top (λ s. record s { subcommand_required = true })) helpful in
    IfOk-weaker c.bin_name.result _ _ (λ more is. ap app_of_fields is.0 ∙ whole) c.bin_name.ensures
