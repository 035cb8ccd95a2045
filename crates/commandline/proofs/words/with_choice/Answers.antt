use Rattle.std.proofs.Common.{codes}
use Rattle.std.proofs.lemmas.Result.{IfOk-weaker}
use Rattle.commandline.specs.CommandLine.{default_rule, flag_rule}
use Rattle.commandline.proofs.CommandLineLaws.{one_more}
use Rattle.commandline.proofs.words.with_choice.Goals as goal

pub returns-clause-app : goal.returns-clause-app
returns-clause-app c =
    let spread = c.in_ok-command.ensures.app in
    let deep = one_more _ _ _ (default_rule (codes "depth") (codes "24")) c.in_ok-command-2.ensures.app spread in
    let ordered = one_more _ _ _ (default_rule (codes "order") (codes "time")) c.in_ok-command-3.ensures.app deep in
    IfOk-weaker c.with_flag.result _ _ (λ added adds. one_more _ _ _ (flag_rule (codes "report")) adds ordered)
    c.with_flag.ensures.app
