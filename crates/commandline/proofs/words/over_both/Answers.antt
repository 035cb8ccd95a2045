use Rattle.std.proofs.Common.{codes}
use Rattle.std.proofs.lemmas.Result.{IfOk-weaker}
use Rattle.commandline.specs.CommandLine.{place_rule}
use Rattle.commandline.proofs.CommandLineLaws.{one_more}
use Rattle.commandline.proofs.words.over_both.Goals as goal

pub returns-clause-app : goal.returns-clause-app
returns-clause-app c =
    let listed = one_more _ _ _ (place_rule (codes "LIST2")) c.in_ok-command-2.ensures.app c.in_ok-command.ensures.app in
    IfOk-weaker c.with_place-2.result _ _
    (λ added adds. one_more _ _ _ (place_rule (codes "MEDIA2")) adds listed) c.with_place-2.ensures.app
