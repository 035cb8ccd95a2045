use Rattle.std.proofs.Common.{◌≡◌, ◌∙◌, refl, sym}
use Rattle.std.specs.Prelude.{Some}
use Rattle.passes.specs.Ends.{last_piece}
use Rattle.passes.proofs.Regrouped.{last_is}
use Rattle.passes.proofs.regroup.end_of.Goals as goal

pub returns : goal.returns
returns c =
    let last : last_piece c.args.group.now ≡ Some c.last.result =
    sym (last_is c.args.group.now) ∙ c.last.ensures.piece in
    rw (c.of.ensures, last) refl
