use Rattle.std.proofs.Common.{◌∙◌, None, Some, sym}
use Rattle.clap.specs.Words.{found_of}
use Rattle.commandline.proofs.CommandLineLaws.{set_read}
use Rattle.commandline.proofs.request.is_set.Goals as goal

pub returns-in-Some : goal.returns-in-Some
returns-in-Some c =
    c.eq.ensures ∙ sym (set_read (found_of c.args.words.now) c.args.id.now (Some c.in-Some.text.now) c.in-Some.ensures)

pub returns-in-None : goal.returns-in-None
returns-in-None c = sym (set_read (found_of c.args.words.now) c.args.id.now None c.in-None.ensures)
