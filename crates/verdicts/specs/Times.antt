-- What the options of a comparison say, their times at the rate of frames of the first list.
use Rattle.std.specs.Prelude.{ℕ, ◌∷◌, [], ◌++◌, List, Option, None, Some, Result, Ok, Err, option_map, codes}
use Rattle.sampletime.specs.TimeCode.{samples_of}
use Rattle.clap.specs.Walk.{Text}
use Rattle.comparison.specs.declared.range.Selection.{Selection}
use Rattle.commandline.specs.CommandLine.{Selected}

-- the time that an option's text spells, at so many frames a second
abbrev pub time_in : ℕ → Option Text → Option (Option ℕ)
time_in rate None = Some None
time_in rate (Some text) = option_map (λ time. Some time.0) (samples_of rate text)

-- what the options of a comparison say, or the name of the one whose time can't be read; `--from` is looked at first
abbrev pub selection_of : ℕ → Selected → Result Selection Text
selection_of rate selected = elim (time_in rate selected.from) [
  | None ↦ Err (codes "--from")
  | Some from ↦ elim (time_in rate selected.to) [
    | None ↦ Err (codes "--to")
    | Some to ↦ Ok (record { from = from; to = to; channels = selected.channels })
  ]
]

-- the line that names an option whose time can't be read
abbrev pub bad_time_line : Text → List ℕ
bad_time_line option = codes "bad time: " ++ (option ++ 10 ∷ [])
