use Rattle.std.proofs.Common.{◌≢◌, ◌*◌, ◌%◌, ◌∙◌, ap, eqb}
use Rattle.std.proofs.lemmas.Bool.{eq-eqb}
use Rattle.soundlaw.proofs.Shares.{quotient_by, rest_by, rounded_is_smaller}
use Rattle.soundlaw.proofs.scaled.Goals as goal

pub returns-clause-quotient : goal.returns-clause-quotient
returns-clause-quotient c = quotient_by c.args.size c.args.fraction.num c.args.fraction.den c.args.fraction.some

pub returns-clause-exact : goal.returns-clause-exact
returns-clause-exact c = ap (λ x. eqb x 0) (rest_by c.args.size c.args.fraction.num c.args.fraction.den)

pub returns-clause-smaller : goal.returns-clause-smaller
returns-clause-smaller c e =
    let rest : c.args.size * c.args.fraction.num % c.args.fraction.den ≢ 0 =
    λ none. let yes =
    eq-eqb (c.args.size % c.args.fraction.den * c.args.fraction.num % c.args.fraction.den) 0
    (rest_by c.args.size c.args.fraction.num c.args.fraction.den ∙ none) in cc in
    rw (quotient_by c.args.size c.args.fraction.num c.args.fraction.den c.args.fraction.some)
    (rounded_is_smaller c.args.size c.args.fraction.num c.args.fraction.den c.args.fraction.at_most_one c.args.fraction.some rest)
