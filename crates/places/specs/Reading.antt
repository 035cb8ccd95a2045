-- What is told of a list that isn't read.
use Rattle.std.specs.Prelude.{Option, None, Some}
use Rattle.std.specs.declared.io.Error.{Error}
use Rattle.places.specs.declared.list_file.ReadFault.{ReadFault}
use Rattle.places.specs.declared.list_file.ReadFault.TheVariants.{Unreadable, Endless, Memory}

-- what the system said of it
abbrev pub reason_of_read : ReadFault → Option Error
reason_of_read (Unreadable reason) = Some reason
reason_of_read Endless = None
reason_of_read Memory = None
