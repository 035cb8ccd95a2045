use Rattle.rendering.proofs.maker.RenderingWorkJobMaker.lay_out.Goals as goal

pub lay_out_marked-requires : goal.lay_out_marked-requires
lay_out_marked-requires g c = rw c.self.invariant.2.0 (record { work = c.self.invariant.0; run = c.self.invariant.1 })

pub returns-clause-lays_out : goal.returns-clause-lays_out
returns-clause-lays_out g c = rw (← c.self.view_is, ← c.self.invariant.2.0) c.lay_out_marked.ensures.lays_out

pub returns-clause-only_writes : goal.returns-clause-only_writes
returns-clause-only_writes g c = rw (← c.self.view_is, ← c.self.invariant.2.0) c.lay_out_marked.ensures.only_writes
