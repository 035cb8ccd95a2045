use Rattle.std.proofs.Common.{◌∙◌, ap, sym, rules, option_map}
use Rattle.clap.specs.Words.{found_of}
use Rattle.commandline.specs.Request.{asked_of}
use Rattle.commandline.proofs.CommandLineLaws.{asked-all, asked-check, asked-compare, asked-show, asked-without_list, asked-without_media, asked-without_out}
use Rattle.commandline.proofs.request.request_over.Goals as goal

pub returns-in_err-list : goal.returns-in_err-list
returns-in_err-list c =
    ap (option_map asked_of) c.from_residual.ensures
    ∙ sym (asked-without_list c.args.name.now (found_of c.args.words.now) c.in_err-list.ensures)

pub returns-in_err-media : goal.returns-in_err-media
returns-in_err-media c =
    ap (option_map asked_of) c.from_residual-in_err-media.ensures
    ∙ sym (asked-without_media c.args.name.now _ (found_of c.args.words.now)
    c.in_ok-list.ensures c.in_err-media.ensures)

pub returns-then-eq : goal.returns-then-eq
returns-then-eq c =
    sym (asked-check c.args.name.now _ _ (found_of c.args.words.now) _
    (search rules) c.in_ok-list.ensures c.in_ok-media.ensures c.checked.ensures)

pub returns-then-eq-2 : goal.returns-then-eq-2
returns-then-eq-2 c =
    c.shown.ensures
    ∙ sym (asked-show c.args.name.now _ _ (found_of c.args.words.now)
    (search rules) (search rules) c.in_ok-list.ensures c.in_ok-media.ensures)

pub returns-then-eq-3 : goal.returns-then-eq-3
returns-then-eq-3 c =
    c.compared.ensures
    ∙ sym (asked-compare c.args.name.now _ _ (found_of c.args.words.now)
    (search rules) (search rules) (search rules) c.in_ok-list.ensures c.in_ok-media.ensures)

pub returns-in_err-out : goal.returns-in_err-out
returns-in_err-out c =
    ap (option_map asked_of) c.from_residual-in_err-out.ensures
    ∙ sym (asked-without_out c.args.name.now _ _ (found_of c.args.words.now)
    (search rules) (search rules) (search rules) c.in_ok-list.ensures c.in_ok-media.ensures c.in_err-out.ensures)

pub returns : goal.returns
returns c =
    c.request_to.ensures
    ∙ sym (asked-all c.args.name.now _ _ _ (found_of c.args.words.now)
    (search rules) (search rules) (search rules) c.in_ok-list.ensures c.in_ok-media.ensures c.in_ok-out.ensures)
