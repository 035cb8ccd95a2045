use Rattle.std.proofs.Common.{◌≡◌, ◌*◌, List, length, drop, rules, sym, ap, ◌∙◌, subst}
use Rattle.std.specs.Prelude.{ℤ}
use Rattle.sound_terms.specs.Depth.{bits_of}
use Rattle.blockmachine.specs.Sums.{AreFew, widened}
use Rattle.blockmachine.proofs.AtDepth.{samples_few}
use Rattle.blockmachine.proofs.Counted.{written}
use Rattle.blockmachine.proofs.sums.Sums.fill.Goals as goal

pub invariant_of-self : goal.invariant_of-self
invariant_of-self c =
    let inside = c.self.inside in
    let new = c.unpack.new.samples in
    let n = inside.layers.len in
    let long : length new ≡ n = search rules in
    let whole : n ≡ inside.lanes.frames * inside.lanes.channels = search rules in
    let over = written n new (drop (length new) inside.layers.items) long in (
      c.self.invariant.0,
      ap (λ (l : List ℤ). length l) over ∙ long ∙ whole,
      λ few. subst (λ (l : List ℤ). AreFew 1 (inside.lanes.frames * inside.lanes.channels) (widened (bits_of c.args.depth) l))
          (sym over) (samples_few c.args.depth new (inside.lanes.frames * inside.lanes.channels) (long ∙ whole)
          c.unpack.ensures.fit),
    )
