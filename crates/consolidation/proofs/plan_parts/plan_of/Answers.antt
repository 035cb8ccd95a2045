use Rattle.std.proofs.Common.{ap, arith, length}
use Rattle.std.proofs.lemmas.Bool.Decides.{nat_tests}
use Rattle.std.proofs.lemmas.Result.{err_from_is_err_and}
use Rattle.consolidation.proofs.Due.{few_runs, linking_due}
use Rattle.consolidation.proofs.plan_parts.plan_of.Goals as goal

pub returns-in_err-list-clause-refusals : goal.returns-in_err-list-clause-refusals
returns-in_err-list-clause-refusals g c = λ work groups are.
    let p = err_from_is_err_and c.from_residual-in_err-list.result c.from_residual-in_err-list.ensures.1 in
    rw (p.1, p.2) (linking_due work (length c.args.intervals) c.in_err-list.field-0.0 (ap length groups)
    (few_runs work c.in_ok-runs.ensures.kept groups are) c.in_err-list.ensures.own)

pub returns-in_err-report-clause-refusals : goal.returns-in_err-report-clause-refusals
returns-in_err-report-clause-refusals g c = λ work groups are.
    let p = err_from_is_err_and c.from_residual-in_err-report.result c.from_residual-in_err-report.ensures.1 in
    let few = few_runs work c.in_ok-runs.ensures.kept groups are in
    grind (arith, nat_tests, p, few, groups, c.in_ok-list.ensures.few_entries, c.in_err-report.ensures.own)

pub returns-clause-refusals : goal.returns-clause-refusals
returns-clause-refusals g c = λ work groups are.
    let few = few_runs work c.in_ok-runs.ensures.kept groups are in
    grind (arith, nat_tests, few, groups, c.in_ok-list.ensures.few_entries)

pub returns-in_err-report-clause-only_reads : goal.returns-in_err-report-clause-only_reads
returns-in_err-report-clause-only_reads g c =
    let p = err_from_is_err_and c.from_residual-in_err-report.result c.from_residual-in_err-report.ensures.1 in
    rw (p.1, p.2) c.in_err-report.ensures.only_reads
