use Rattle.std.proofs.Common.{List, All, arith, subst, sym}
use Rattle.sound_terms.specs.declared.piece.Piece.{Piece}
use Rattle.sound_terms.specs.Groups.{IsBounded, pieces_of}
use Rattle.list_terms.specs.BoundHomes.{homes_of}
use Rattle.list_terms.specs.Heard.{sounds_of}
use Rattle.interval.specs.AtHome.{IsAtHome}
use Rattle.interval.proofs.InTurn.{holding_in_order, lie_in_order}
use Rattle.interval.proofs.sound.from_checked.Goals as goal

pub returns-clause-at_home : goal.returns-clause-at_home
returns-clause-at_home c =
    let bound = c.args.checked.now.bound in
    subst (λ (groups : List (List Piece)). All (IsAtHome (sounds_of bound) (homes_of bound)) (pieces_of groups))
    (sym c.in_ok-intervals.ensures.order)
    (lie_in_order (IsAtHome (sounds_of bound) (homes_of bound))
    c.in_ok-groups.groups.items c.in_ok-groups.ensures.sound.lie)

pub returns-clause-bounded : goal.returns-clause-bounded
returns-clause-bounded c =
    let groups = c.in_ok-groups.groups.items in
    subst (λ (g : List (List Piece)). IsBounded 32767 (pieces_of g)) (sym c.in_ok-intervals.ensures.order)
    (λ time.
    let same = holding_in_order time groups in
    let held = c.in_ok-groups.ensures.sound.few time in
    omega (arith, same, held, c.in_ok-groups.ensures.few))
