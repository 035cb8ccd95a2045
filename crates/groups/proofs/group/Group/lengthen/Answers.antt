use Rattle.sound_terms.specs.LongerLaws.{lengthened_is_group}
use Rattle.groups.proofs.group.Group.lengthen.Goals as goal

pub invariant_of-self : goal.invariant_of-self
invariant_of-self c =
    lengthened_is_group c.args.later _ _ c.lengthened-self-inside.ensures c.self.invariant.1 c.requires.sound
