use Rattle.std.proofs.Common.{◌∙◌, rules, sym}
use Rattle.clap.specs.Words.{found_of}
use Rattle.commandline.proofs.CommandLineLaws.{asked-explain}
use Rattle.commandline.proofs.request.request_by.Goals as goal

pub returns-then-eq : goal.returns-then-eq
returns-then-eq c =
    c.explained.ensures
    ∙ sym (asked-explain c.args.name.now (found_of c.args.words.now) _ _ (search rules)
    c.get_str-what.ensures c.get_str-number.ensures)
