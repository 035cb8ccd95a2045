use Rattle.std.proofs.Common.{◌∙◌, ap, sym, option_map}
use Rattle.clap.specs.Words.{found_of}
use Rattle.commandline.specs.Request.{chosen_of}
use Rattle.commandline.proofs.CommandLineLaws.{chosen-bad_channels, chosen-bad_depth, chosen-ordered, chosen-without_depth, ordered-all, ordered-bad_order, ordered-without_order}
use Rattle.commandline.proofs.request.chosen_in.Goals as goal

pub returns-in_err-get_str : goal.returns-in_err-get_str
returns-in_err-get_str c =
    ap (option_map chosen_of) c.from_residual.ensures
    ∙ sym (chosen-without_depth (found_of c.args.words.now) c.in_err-get_str.ensures)

pub returns-in_err-depth : goal.returns-in_err-depth
returns-in_err-depth c =
    ap (option_map chosen_of) c.from_residual-in_err-depth.ensures
    ∙ sym (chosen-bad_depth (found_of c.args.words.now) c.in_ok-get_str.field-0.now c.in_ok-get_str.ensures
    c.in_err-depth.ensures)

pub returns-in_err-channels : goal.returns-in_err-channels
returns-in_err-channels c =
    ap (option_map chosen_of) c.from_residual-in_err-channels.ensures
    ∙ sym (chosen-bad_channels (found_of c.args.words.now) c.in_ok-get_str.field-0.now _ _
    c.in_ok-get_str.ensures c.in_ok-depth.ensures c.get_str-2.ensures c.in_err-channels.ensures.read)

pub returns-in_err-get_str-2 : goal.returns-in_err-get_str-2
returns-in_err-get_str-2 c =
    ap (option_map chosen_of) c.from_residual-in_err-get_str-2.ensures
    ∙ sym (chosen-ordered (found_of c.args.words.now) c.in_ok-get_str.field-0.now _ _ _
    c.in_ok-get_str.ensures c.in_ok-depth.ensures c.get_str-2.ensures c.in_ok-channels.ensures.read
    ∙ ordered-without_order (found_of c.args.words.now) _ _ c.in_err-get_str-2.ensures)

pub returns-in_err-order : goal.returns-in_err-order
returns-in_err-order c =
    ap (option_map chosen_of) c.from_residual-in_err-order.ensures
    ∙ sym (chosen-ordered (found_of c.args.words.now) c.in_ok-get_str.field-0.now _ _ _
    c.in_ok-get_str.ensures c.in_ok-depth.ensures c.get_str-2.ensures c.in_ok-channels.ensures.read
    ∙ ordered-bad_order (found_of c.args.words.now) _ _ c.in_ok-get_str-2.field-0.now
    c.in_ok-get_str-2.ensures c.in_err-order.ensures)

pub returns : goal.returns
returns c =
    sym (chosen-ordered (found_of c.args.words.now) c.in_ok-get_str.field-0.now _ _ _
    c.in_ok-get_str.ensures c.in_ok-depth.ensures c.get_str-2.ensures c.in_ok-channels.ensures.read
    ∙ ordered-all (found_of c.args.words.now) _ c.in_ok-channels.channels c.in_ok-get_str-2.field-0.now _ _ _ _
    c.in_ok-get_str-2.ensures c.in_ok-order.ensures c.get_str-4.ensures c.get_str-5.ensures c.is_set.ensures)
