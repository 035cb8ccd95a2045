use Rattle.std.proofs.Common.{codes}
use Rattle.std.proofs.lemmas.Result.{IfOk-weaker}
use Rattle.commandline.specs.CommandLine.{place_rule}
use Rattle.commandline.proofs.CommandLineLaws.{one_more}
use Rattle.commandline.proofs.words.over_folders.Goals as goal

pub returns-clause-app : goal.returns-clause-app
returns-clause-app c =
    IfOk-weaker c.with_place.result _ _
    (λ added adds. one_more _ _ _ (place_rule (codes "OUT")) adds c.in_ok-command.ensures.app) c.with_place.ensures.app
