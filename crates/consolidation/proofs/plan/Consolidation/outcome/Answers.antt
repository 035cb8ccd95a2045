use Rattle.consolidation.proofs.Ended.{consolidated, same_sound}
use Rattle.consolidation.proofs.Numbers.{foreign_elsewhere, holds_last, named_outputs}
use Rattle.consolidation.proofs.plan.Consolidation.outcome.Goals as goal

pub returns-clause-same_sound : goal.returns-clause-same_sound
returns-clause-same_sound c = λ text leave project binding handle asked sources written accepted of are_there holds last.
    same_sound c.args.self.now c.count.ensures.planned leave project binding handle asked sources written of are_there
    holds (holds_last c.args.self.now sources written last).0 text accepted

pub returns-clause-consolidated : goal.returns-clause-consolidated
returns-clause-consolidated c = λ leave project binding handle asked sources old written of are_there holds last others.
    let plan = c.args.self.now in
    let held = holds_last plan sources written last in
    rw c.written.ensures (consolidated plan c.count.ensures.planned leave project binding handle asked sources written of
    are_there holds held.0 old (λ n elsewhere. others n (foreign_elsewhere plan _ of.is_asked n elsewhere)) held.1)

pub returns-clause-names : goal.returns-clause-names
returns-clause-names c = named_outputs c.args.self.now c.count.ensures.planned
