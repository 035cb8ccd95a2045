use Rattle.std.proofs.Common.{◌∙◌, ap, sym, rules, option_map}
use Rattle.clap.specs.Words.{found_of, rows_of}
use Rattle.commandline.specs.Request.{asked_of}
use Rattle.commandline.proofs.CommandLineLaws.{compared-all, compared-both_input, compared-one_input, compared-without_list, compared-without_media}
use Rattle.commandline.proofs.request.compared.Goals as goal

pub returns-in_err-other_list : goal.returns-in_err-other_list
returns-in_err-other_list c =
    ap (option_map asked_of) c.from_residual.ensures
    ∙ sym (compared-without_list c.args.list.now c.args.media.now (found_of c.args.words.now)
    c.in_err-other_list.ensures)

pub returns-in_err-other_media : goal.returns-in_err-other_media
returns-in_err-other_media c =
    ap (option_map asked_of) c.from_residual-in_err-other_media.ensures
    ∙ sym (compared-without_media c.args.list.now c.args.media.now _ (found_of c.args.words.now)
    c.in_ok-other_list.ensures c.in_err-other_media.ensures)

pub returns-then-are_both_input : goal.returns-then-are_both_input
returns-then-are_both_input c =
    sym (compared-all c.args.list.now c.args.media.now c.in_ok-other_list.other_list.now
    c.in_ok-other_media.other_media.now (found_of c.args.words.now)
    c.in_ok-other_list.ensures c.in_ok-other_media.ensures
    ∙ compared-both_input c.args.list.now c.args.media.now c.in_ok-other_list.other_list.now
    c.in_ok-other_media.other_media.now (rows_of (found_of c.args.words.now)) (search rules))

pub returns : goal.returns
returns c =
    sym (compared-all c.args.list.now c.args.media.now c.in_ok-other_list.other_list.now
    c.in_ok-other_media.other_media.now (found_of c.args.words.now)
    c.in_ok-other_list.ensures c.in_ok-other_media.ensures
    ∙ compared-one_input c.args.list.now c.args.media.now c.in_ok-other_list.other_list.now
    c.in_ok-other_media.other_media.now (rows_of (found_of c.args.words.now)) _ (search rules)
    c.in_ok-selected_in.ensures)
