use Rattle.std.proofs.Common.{ℕ, subst, sym}
use Rattle.comparison.specs.Matched.{AreSameFrames}
use Rattle.comparison.proofs.Joined.{continued_same}
use Rattle.comparison.proofs.matches.continued.Goals as goal

pub returns : goal.returns
returns c = λ reading other first second.
    let earlier = c.args.earlier.now in
    subst (λ (n : ℕ). AreSameFrames reading other (record earlier { end = n })) (sym c.max.ensures)
    (continued_same reading other earlier c.args.later.now c.requires first second)
