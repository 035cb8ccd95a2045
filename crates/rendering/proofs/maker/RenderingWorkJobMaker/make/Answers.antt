use Rattle.std.proofs.Common.{get_or-set_other, get_or-set_same, refl, arith, inl, inr}
use Rattle.std.proofs.lemmas.Bool.{cases_eq}
use Rattle.rendering.specs.Maker.{no_clips}
use Rattle.rendering.proofs.maker.RenderingWorkJobMaker.make.Goals as goal

pub returns-in-Ok-clause-same : goal.returns-in-Ok-clause-same
returns-in-Ok-clause-same g c = rw (← c.self.view_is, c.in-Ok.ensures.same) refl

pub returns-in-Ok-clause-notes : goal.returns-in-Ok-clause-notes
returns-in-Ok-clause-notes g c honest = rw (
  c.in-Ok.ensures.same,
  get_or-set_same c.self.inside.clips.items c.args.job c.in-Ok.clips no_clips
      (omega (arith, c.self.invariant.2.1, rw (← c.self.view_is) at c.requires.there)),
) (c.in-Ok.ensures.clips honest)

pub returns-in-Ok-clause-keeps : goal.returns-in-Ok-clause-keeps
returns-in-Ok-clause-keeps g c honest k noted = elim (cases_eq k c.args.job) [
  | inl same ↦ rw same (returns-in-Ok-clause-notes g c honest)
  | inr other ↦ rw (
    c.in-Ok.ensures.same,
    get_or-set_other c.self.inside.clips.items c.args.job k c.in-Ok.clips no_clips other,
  ) (rw (← c.self.view_is) at noted)
]

pub returns-in-Err-clause-keeps : goal.returns-in-Err-clause-keeps
returns-in-Err-clause-keeps g c honest k noted = rw c.in-Err.ensures.same (rw (← c.self.view_is) at noted)
