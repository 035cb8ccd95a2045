use Rattle.std.proofs.Common.{◌-◌, ◌∙◌, All, IsTrue, List, ap, length, rules, slice_get, subst, sym}
use Rattle.std.proofs.lemmas.List.Elements.{All-push}
use Rattle.digests.specs.declared.medium.Medium.{Medium}
use Rattle.digests.specs.Media.{IsTellable}
use Rattle.digests.proofs.WholeSources.{one_medium}
use Rattle.digests.proofs.digests.hashed_media.Goals as goal

pub loop-position-preserved : goal.loop-position-preserved
loop-position-preserved g c =
    let both = λ (honest : IsTrue (g.S.Shelf.honest c.args.shelf.now)).
    let now : IsTrue (g.S.Shelf.honest c.loop-position.shelf) = rw c.loop-position.invariant.0.honest_same honest in
    let then : IsTrue (g.S.Shelf.honest c.source_digest.new.shelf) =
    rw c.in_ok-source.ensures.only_reads.honest_same now in
    one_medium c.args.digests c.args.sounds.now c.homes-homes.result.now (g.S.Shelf.stored c.args.shelf.now)
    (g.S.Shelf.stored c.loop-position.shelf) (g.S.Shelf.stored c.source_digest.new.shelf)
    c.loop-position.invariant.0.same c.in_ok-source.ensures.only_reads.same c.loop-position.position
    c.as_slice-list.result.now (record { file = 0; first = 0; length = 0 }) _ (length c.loop-position.media.items - 1)
    c.loop-position.media.items _ c.in_ok-source.source c.in_ok-medium.medium c.loop-position-test.true
    (c.last.ensures.value ∙ ap (λ (xs : List Medium). slice_get xs (length xs - 1)) c.deref.ensures.value)
    (c.loop-position.invariant.3 honest) (c.loop-position.invariant.2 honest) c.in_ok-push.ensures.items
    (c.in_ok-source.ensures.digest now) (λ known asked. c.in_ok-source.ensures.exists now known asked) (c.in_ok-medium.ensures.medium then) in (
      search rules,
      subst (All (IsTellable c.args.sounds.now c.homes-homes.result.now)) (sym c.in_ok-push.ensures.items)
          (All-push (IsTellable c.args.sounds.now c.homes-homes.result.now) c.loop-position.media.items
          c.in_ok-medium.medium c.loop-position.invariant.1 c.in_ok-medium.ensures.tellable),
      λ honest. (both honest).0,
      λ honest. (both honest).1,
    )
