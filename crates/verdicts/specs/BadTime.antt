-- The name of an option whose time can't be read.
use Rattle.std.specs.Prelude.{ℕ, List, codes}
use Rattle.verdicts.specs.declared.times.BadTime.{BadTime}
use Rattle.verdicts.specs.declared.times.BadTime.TheVariants.{From, To}

abbrev pub name_of : BadTime → List ℕ
name_of From = codes "--from"
name_of To = codes "--to"
