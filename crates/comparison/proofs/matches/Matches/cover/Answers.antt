use Rattle.std.proofs.Common.{List, get_or, refl, rules, subst, sym}
use Rattle.std.specs.List.{All}
use Rattle.comparison.specs.declared.matches.Match.{Match}
use Rattle.comparison.specs.Matched.{AreSameFrames}
use Rattle.comparison.proofs.Joined.{covered_same}
use Rattle.comparison.proofs.matches.Matches.cover.Goals as goal

pub returns-then-wanted-found : goal.returns-then-wanted-found
returns-then-wanted-found c = λ yes reading other all.
    let kept = subst (λ (l : List Match). All (AreSameFrames reading other) l) (sym c.self.view_is) all in
    covered_same reading other (get_or c.self.inside.kept c.loop-k.k _) c.args.wanted.now (c.if-follows.ensures refl)
    c.if-wanted-found.true (kept c.loop-k.k _ (search rules))
