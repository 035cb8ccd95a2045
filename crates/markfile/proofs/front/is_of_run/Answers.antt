use Rattle.std.proofs.Common.{◌≡◌, ◌∙◌, ap, drop, take, nat_eq, arith}
use Rattle.std.specs.List.{starts_with}
use Rattle.std.proofs.lemmas.List.{length-drop, take_all}
use Rattle.markfile.proofs.front.is_of_run.Goals as goal

pub returns : goal.returns
returns c =
    let front = c.args.front.now in
    let rest : take 36 (drop 8 front) ≡ drop 8 front =
    take_all 36 (drop 8 front) (omega (arith, length-drop 8 front)) in
    c.starts_with.ensures.value ∙ ap (λ bytes. starts_with nat_eq bytes c.args.run.now.digest) rest
