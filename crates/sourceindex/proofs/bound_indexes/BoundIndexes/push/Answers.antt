use Rattle.std.proofs.Common.{◌≡◌, ◌∷◌, ◌++◌, ◌^◌, ◌<◌, [], None, arith, length, length-append}
use Rattle.facts.specs.Tests.{not_some}
use Rattle.sourceindex.proofs.Places.{place_added, read_as}
use Rattle.sourceindex.proofs.bound_indexes.BoundIndexes.push.Goals as goal

pub invariant_of-self-then-is_none : goal.invariant_of-self-then-is_none
invariant_of-self-then-is_none c =
    let indexes = c.self.inside.indexes.items in
    let places = c.self.inside.places.items in
    let index = c.args.index in
    let pushed : c.push.new.self.items ≡ indexes ++ index ∷ [] = c.in_ok-push.ensures.items in
    let place : c.len-position.result ≡ length indexes = omega (arith, c.self.inside.indexes.ok.0) in
    let below : index.number < length places = omega (arith, c.if-number-len.true, c.self.inside.places.ok.0) in
    let free =
    read_as places index.number c.index.result.now None None below c.index.ensures
    (not_some c.index.result.now c.if-is_none.ensures) in
    let few : length (indexes ++ index ∷ []) < 2 ^ 32 =
    omega (arith, length-append indexes (index ∷ []), place, c.if-position-ge-MOST.false) in (
      rw (pushed, place) (place_added indexes places index c.self.invariant.0 below free),
      rw pushed few,
    )
