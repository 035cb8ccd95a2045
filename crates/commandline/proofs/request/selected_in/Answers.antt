use Rattle.std.proofs.Common.{◌∙◌, ap, sym, option_map}
use Rattle.clap.specs.Words.{found_of}
use Rattle.commandline.specs.Request.{selected_of}
use Rattle.commandline.proofs.CommandLineLaws.{selected-all, selected-bad_channels}
use Rattle.commandline.proofs.request.selected_in.Goals as goal

pub returns-in_err-channels : goal.returns-in_err-channels
returns-in_err-channels c =
    ap (option_map selected_of) c.from_residual.ensures
    ∙ sym (selected-bad_channels (found_of c.args.words.now) _ c.get_str.ensures c.in_err-channels.ensures.read)

pub returns : goal.returns
returns c =
    sym (selected-all (found_of c.args.words.now) _ _ _ c.in_ok-channels.channels _ c.get_str.ensures
    c.in_ok-channels.ensures.read c.get_str-2.ensures c.get_str-3.ensures c.is_set.ensures)
