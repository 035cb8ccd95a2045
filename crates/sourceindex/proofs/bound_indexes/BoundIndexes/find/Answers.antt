use Rattle.std.proofs.Common.{◌≡◌, ◌∙◌, ◌<◌, None, Some, arith, length, refl, sym, ap}
use Rattle.std.specs.List.{slice_get}
use Rattle.std.proofs.lemmas.Option.{slice_get_read}
use Rattle.sound_terms.specs.Mix.{index_of}
use Rattle.sourceindex.proofs.Places.{found_by_no_place, found_by_place, place_inside, read_as}
use Rattle.sourceindex.proofs.bound_indexes.BoundIndexes.find.Goals as goal

pub returns-in_err-position : goal.returns-in_err-position
returns-in_err-position c =
    let indexes = c.self.inside.indexes.items in
    let places = c.self.inside.places.items in
    let below : c.args.number < length places = omega (arith, c.if-len-number.false, c.self.inside.places.ok.0) in
    let held = read_as places c.args.number c.index.result.now None None below c.index.ensures c.in_err-position.was in
    c.from_residual.ensures ∙ sym (found_by_no_place indexes places c.args.number c.self.invariant.0 below held)
    ∙ ap (λ l. index_of l c.args.number) c.self.view_is

pub returns : goal.returns
returns c =
    let indexes = c.self.inside.indexes.items in
    let places = c.self.inside.places.items in
    let place = c.in_ok-position.position in
    let below : c.args.number < length places = omega (arith, c.if-len-number.false, c.self.inside.places.ok.0) in
    let held =
    read_as places c.args.number c.index.result.now None (Some place) below c.index.ensures c.in_ok-position.was in
    let inside = place_inside indexes places c.args.number place c.self.invariant.0 below held in
    let there : slice_get indexes place ≡ Some c.index-2.result.now =
    slice_get_read indexes (length indexes) place c.index-2.result.now refl inside c.index-2.ensures in
    sym there ∙ found_by_place indexes places c.args.number place c.self.invariant.0 below held
    ∙ ap (λ l. index_of l c.args.number) c.self.view_is
