use Rattle.std.proofs.Common.{◌∙◌, ap, sym}
use Rattle.std.specs.Prelude.{option_and_then, codes}
use Rattle.clap.specs.Words.{found_of}
use Rattle.commandline.specs.CommandLine.{number_in}
use Rattle.commandline.proofs.CommandLineLaws.{handle_read, row_of_value}
use Rattle.commandline.proofs.request.handle_in.Goals as goal

pub returns-in_err-get_str : goal.returns-in_err-get_str
returns-in_err-get_str c =
    c.from_residual.ensures ∙ sym (ap (option_and_then (number_in 0 4147200000))
    (row_of_value (found_of c.args.words.now) (codes "handle") _ c.in_err-get_str.ensures))

pub returns : goal.returns
returns c =
    c.number_in.ensures.value
    ∙ sym (handle_read (found_of c.args.words.now) c.in_ok-get_str.field-0.now c.in_ok-get_str.ensures)
