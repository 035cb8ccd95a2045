-- What the options of a rendering or of a picture say, their times at the rate of frames of the list.
use Rattle.std.specs.Prelude.{ℕ, None, Some, Result, Ok, Err, codes}
use Rattle.list_terms.specs.Accepted.{OptionValues}
use Rattle.clap.specs.Walk.{Text}
use Rattle.picture.specs.declared.part.Part.{Part}
use Rattle.commandline.specs.CommandLine.{Chosen, Drawn}
use Rattle.verdicts.specs.Times.{time_in}

-- what the options of a rendering say, or the name of the one whose time can't be read; `--from` is looked at first
abbrev pub values_of : ℕ → Chosen → Result OptionValues Text
values_of rate chosen = elim (time_in rate chosen.from) [
  | None ↦ Err (codes "--from")
  | Some from ↦ elim (time_in rate chosen.to) [
    | None ↦ Err (codes "--to")
    | Some to ↦ Ok (record { from = from; to = to; channels = chosen.channels; depth = chosen.depth })
  ]
]

-- of a picture likewise
abbrev pub part_of : ℕ → Drawn → Result Part Text
part_of rate drawn = elim (time_in rate drawn.from) [
  | None ↦ Err (codes "--from")
  | Some from ↦ elim (time_in rate drawn.to) [
    | None ↦ Err (codes "--to")
    | Some to ↦ Ok (record { from = from; to = to })
  ]
]
