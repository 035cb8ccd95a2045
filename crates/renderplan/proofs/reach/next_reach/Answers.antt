use Rattle.std.proofs.Common.{◌≡◌, ◌+◌, ◌-◌, List, drop, length, get_or, arith, sym, ap, ◌∙◌, subst}
use Rattle.sound_terms.specs.declared.piece.Piece.{Piece}
use Rattle.renderplan.specs.declared.reach.Reach.{Reach}
use Rattle.renderplan.specs.Reaches.{IsReach, last}
use Rattle.renderplan.proofs.Reaching.{drop-last, join_reach}
use Rattle.renderplan.proofs.reach.next_reach.Goals as goal

pub loop-reach-preserved : goal.loop-reach-preserved
loop-reach-preserved c =
    let pieces = c.args.pieces.now in
    let reach = c.loop-reach.reach in
    let n = length c.args.reaches.now in
    let next : Reach = get_or c.args.reaches.now (n - reach.count) (record { count = 0; least = 0; greatest = 0 }) in
    let some = c.loop-reach.invariant.some in
    let behind : IsReach (last (n - reach.count + 1) pieces) next =
    c.requires.after (n - reach.count) _ (omega arith) in
    let place : n + 1 - reach.count ≡ n - reach.count + 1 = omega arith in
    let there : drop reach.count (last (n + 1) pieces) ≡ last (n - reach.count + 1) pieces =
    drop-last reach.count (n + 1) pieces (omega arith) (omega arith) ∙ ap (λ k. last k pieces) place in
    rw c.joined-reach.ensures
    (join_reach (last (n + 1) pieces) reach next c.loop-reach.invariant
    (subst (λ (rest : List Piece). IsReach rest next) (sym there) behind))
