-- Arguments of a command that apply to its subcommands too.
use Rattle.std.specs.Prelude.{◌≡◌, false}
use Rattle.clap.specs.declared.Command.{Command}
use Rattle.clap.specs.declared.Command.TheViews.{out-Command as fields_of}

-- no argument of the command applies to its subcommands
abbrev pub HasNoGlobals : Command → Type 0
HasNoGlobals command = (fields_of command).has_globals ≡ false

-- the changed command has global arguments exactly if the command had any
abbrev pub AsGlobal : Command → Command → Type 0
AsGlobal command added = (fields_of added).has_globals ≡ (fields_of command).has_globals
