use Rattle.std.proofs.Common.{◌<◌, [], ◌∷◌, below_more, arith, refl}
use Rattle.std.proofs.lemmas.List.Elements.{All-push, Contains-append_left, Contains-append_right}
use Rattle.silence.proofs.pieces.places.Goals as goal

pub loop-position-preserved : goal.loop-position-preserved
loop-position-preserved c =
    let places = c.loop-position.places.items in
    let place = c.loop-position.position in
    record {
      inside = rw c.in_ok-push.ensures.items
          (All-push (λ n. n < c.args.count) places place c.loop-position.invariant.inside c.loop-position-test.true);
      each = rw c.in_ok-push.ensures.items
          (below_more _ place
          (λ n below. Contains-append_left places (place ∷ []) n (c.loop-position.invariant.each n below))
          (Contains-append_right places (place ∷ []) place (0, omega arith, refl)));
    }
