use Rattle.std.proofs.Common.{◌∙◌, List, sym, subst}
use Rattle.sound_terms.specs.declared.piece.Home.{Home}
use Rattle.sound_terms.specs.Homes.{kept_of, place_by}
use Rattle.sound_terms.specs.Kept.{AreRuns}
use Rattle.mediaset.proofs.bound.runs.Goals as goal

pub returns-clause-one : goal.returns-clause-one
returns-clause-one c = λ runs are.
    c.in_ok-kept.ensures.one runs
    (subst (λ (homes : List Home). AreRuns (kept_of c.args.intervals.now homes c.args.handle) (place_by homes) runs)
    (sym c.in_ok-homes.ensures) are)
    ∙ sym c.into_vec.ensures.runs
