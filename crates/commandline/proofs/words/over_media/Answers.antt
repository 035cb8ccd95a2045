use Rattle.std.proofs.Common.{codes}
use Rattle.std.proofs.lemmas.Result.{IfOk-weaker}
use Rattle.commandline.specs.CommandLine.{flag_rule, place_rule}
use Rattle.commandline.proofs.CommandLineLaws.{one_more}
use Rattle.commandline.proofs.words.over_media.Goals as goal

pub returns-clause-app : goal.returns-clause-app
returns-clause-app c =
    let listed = one_more _ _ _ (place_rule (codes "LIST")) c.in_ok-command.ensures.app c.told-command.ensures.app in
    let placed = one_more _ _ _ (place_rule (codes "MEDIA")) c.in_ok-command-2.ensures.app listed in
    let listing = one_more _ _ _ (flag_rule (codes "all")) c.in_ok-command-3.ensures.app placed in
    IfOk-weaker c.with_flag-2.result _ _ (λ added adds. one_more _ _ _ (flag_rule (codes "search")) adds listing)
    c.with_flag-2.ensures.app
