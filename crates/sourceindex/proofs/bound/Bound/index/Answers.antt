use Rattle.std.proofs.Common.{◌≤◌, IfSome, subst}
use Rattle.sound_terms.specs.Homes.{addressable_by}
use Rattle.list_terms.specs.Binding.{Binding}
use Rattle.list_terms.specs.BoundHomes.{IsBoundTo, homes_of}
use Rattle.sourceindex.proofs.HomeLaws.{found_at_home, found_bound}
use Rattle.sourceindex.proofs.bound.Bound.index.Goals as goal

pub returns-clause-bound : goal.returns-clause-bound
returns-clause-bound c =
    subst (λ (b : Binding). IfSome c.index.result (IsBoundTo b.files)) c.self.view_is
    (found_bound c.self.inside.binder c.self.invariant c.args.number c.index.result c.index.ensures)

pub returns-clause-at_home : goal.returns-clause-at_home
returns-clause-at_home c =
    subst (λ (b : Binding). IfSome c.index.result (λ index. index.addressable ≤ addressable_by (homes_of b) index.file))
    c.self.view_is
    (found_at_home c.self.inside.binder c.self.invariant c.args.number c.index.result c.index.ensures)
