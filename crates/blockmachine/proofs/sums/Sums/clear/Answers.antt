use Rattle.std.proofs.Common.{◌≡◌, length, rules, arith, ◌∙◌}
use Rattle.sound_terms.specs.Depth.{bits_of}
use Rattle.blockmachine.proofs.AtDepth.{cleared_few, cleared_sums, length-front}
use Rattle.blockmachine.proofs.sums.Sums.clear.Goals as goal

pub invariant_of-self : goal.invariant_of-self
invariant_of-self c =
    let new = c.set_to_zero.new.sums in
    let long : length new ≡ c.self.inside.layers.len = search rules in (
      c.self.invariant.0,
      length-front _ new _ (omega (arith, long)) ∙ search rules,
      λ few. cleared_few (bits_of c.args.depth) _ _ new _ c.set_to_zero.ensures long,
    )

pub returns-clause-zero : goal.returns-clause-zero
returns-clause-zero c =
    let new = c.set_to_zero.new.sums in
    let long : length new ≡ c.self.inside.layers.len = search rules in
    cleared_sums (bits_of c.args.depth) _ _ _ new _ c.set_to_zero.ensures long (search rules)
