use Rattle.std.proofs.Common.{List, ap, refl, rules, subst, sym}
use Rattle.std.specs.List.{All}
use Rattle.std.proofs.lemmas.List.Elements.{All-set}
use Rattle.comparison.specs.declared.matches.Match.{Match}
use Rattle.comparison.specs.declared.matches.Matches.TheInside.{Inside}
use Rattle.comparison.specs.Matched.{AreSameFrames}
use Rattle.comparison.proofs.Joined.{both_same, none_same}
use Rattle.comparison.proofs.matches.Matches.add.Goals.{in-Some, in_default}
use Rattle.comparison.proofs.matches.Matches.add.Goals as goal

pub loop-k-init : goal.loop-k-init
loop-k-init c = λ reading other all found.
    (subst (λ (l : List Match). All (AreSameFrames reading other) l) (sym c.self.view_is) all, found)

pub loop-k-preserved : goal.loop-k-preserved
loop-k-preserved c = λ reading other all found.
    let none : Match = record { file = 0; frame = 0; end = 0; other_file = 0; other_frame = 0; channels = 0 } in
    let before = c.loop-k.invariant reading other all found in
    let kept = c.loop-k.self-inside.kept in
    elim c.match-joined.branch [
      | in-Some w ↦ both_same reading other _ _ _ _ (ap (λ (s : Inside). s.kept) w.self-inside-is) w.whole-is
          (All-set (AreSameFrames reading other) kept c.loop-k.k none (none_same reading other none refl) before.0)
          (w.in-Some.ensures reading other (before.0 c.loop-k.k none (search rules)) before.1)
      | in_default w ↦ both_same reading other _ _ _ _ (ap (λ (s : Inside). s.kept) w.self-inside-is) w.whole-is before.0
          before.1
    ]

pub returns : goal.returns
returns c = λ reading other all found.
    let kept = c.loop-k.invariant reading other all found in
    All-set (AreSameFrames reading other) c.loop-k.self-inside.kept c.loop-k.self-inside.next c.loop-k.whole kept.1 kept.0
