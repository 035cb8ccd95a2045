use Rattle.std.proofs.Common.{codes}
use Rattle.std.proofs.lemmas.Result.{IfOk-weaker}
use Rattle.commandline.specs.CommandLine.{option_rule}
use Rattle.commandline.proofs.CommandLineLaws.{one_more}
use Rattle.commandline.proofs.words.with_times.Goals as goal

pub returns-clause-app : goal.returns-clause-app
returns-clause-app c =
    IfOk-weaker c.with_option-2.result _ _
    (λ added adds. one_more _ _ _ (option_rule (codes "to")) adds c.in_ok-command.ensures.app) c.with_option-2.ensures.app
