-- Where its times can be read, what was asked for isn't mistaken for a time that can't.
use Rattle.std.proofs.Common.{◌≡◌, ℕ, Result, Ok, Err, IsOk}
use Rattle.clap.specs.Walk.{Text}
use Rattle.console.specs.declared.console.Console as console
use Rattle.commandline.specs.CommandLine.{Asked, Check, Report, Render, Resume, Consolidate, Compare, Show, Explain, ExplainNotice}
use Rattle.answers.specs.Answers.{CanBeTimed, MayBeMistaken}

never : {X : Type 0} (read : Result X Text) (option : Text) → IsOk read → read ≡ Err option → ⊥
never (Ok value) option can is = cc
never (Err other) option can is = cc

pub still_mistaken : {E : Type 0} (err : console.Ghosts E) (old between last : E) (rate : ℕ) (asked : Asked)
    → CanBeTimed rate asked → MayBeMistaken err between last rate asked → MayBeMistaken err old last rate asked
still_mistaken err old between last rate (Check list media) can was = was
still_mistaken err old between last rate (Report list media) can was = was
still_mistaken err old between last rate (Render list media out chosen) can was = absurd (never _ was.0 can was.1)
still_mistaken err old between last rate (Resume list media out chosen) can was = absurd (never _ was.0 can was.1)
still_mistaken err old between last rate (Consolidate list media out handle _) can was = was
still_mistaken err old between last rate (Compare list media other other_media selected) can was = was
still_mistaken err old between last rate (Show list media handle drawn) can was = absurd (never _ was.0 can was.1)
still_mistaken err old between last rate (Explain number) can was = was
still_mistaken err old between last rate (ExplainNotice number) can was = was
