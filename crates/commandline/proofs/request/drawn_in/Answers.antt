use Rattle.clap.specs.Words.{found_of}
use Rattle.commandline.proofs.CommandLineLaws.{drawn-all}
use Rattle.commandline.proofs.request.drawn_in.Goals as goal

pub returns : goal.returns
returns c = drawn-all (found_of c.args.words.now) _ _ c.get_str.ensures c.get_str-2.ensures
