use Rattle.std.proofs.Common.{◌≡◌, ◌∙◌, ◌+◌, List, ap, arith, false, length, refl, take}
use Rattle.std.specs.Prelude.{◌==◌}
use Rattle.std.specs.List.{list_any}
use Rattle.std.proofs.lemmas.List.{length-take-le, take_all}
use Rattle.sound_terms.specs.declared.piece.Home.{Home}
use Rattle.list_terms.specs.Renewed.{numbered, run_source}
use Rattle.relink.specs.NumberingLaws.{numbered_free, numbered_step}
use Rattle.relink.proofs.indexes.indexes_of.Goals as goal

pub push-requires : goal.push-requires
push-requires c =
    let place = c.loop-position.position in
    let list = c.as_slice-list.result.now in
    let homes = c.homes-homes.result.now in
    let before = take place list in
    let sound = c.as_slice-list.ensures.sound in
    let lent = ap length c.as_slice-list.ensures.lent in
    let few = length-take-le place list (omega (arith, c.loop-position-test.true)) in
    let free : list_any (λ other. other.number == place + 1) (numbered (run_source homes) 1 before) ≡ false =
    numbered_free (run_source homes) (λ source. source.number) (λ n run. refl) 1 (place + 1) before
    (omega (arith, few)) in
    let same : list_any (λ other. other.number == c.in_ok-source.source.number) c.loop-position.sources ≡ false =
    rw (c.in_ok-source.ensures, c.loop-position.invariant) free in
    same

pub loop-position-preserved : goal.loop-position-preserved
loop-position-preserved c =
    numbered_step (run_source c.homes-homes.result.now) c.loop-position.position c.as_slice-list.result.now _ _ _ _
    c.loop-position-test.true c.loop-position.invariant c.in_ok-push.ensures.pushed c.in_ok-source.ensures

pub returns-clause-indexes : goal.returns-clause-indexes
returns-clause-indexes c =
    let list = c.as_slice-list.result.now in
    let all = take_all c.loop-position.position list (omega (arith, c.loop-position-test.false)) in
    let so_far : c.loop-position.sources
    ≡ numbered (run_source c.homes-homes.result.now) 1 (take c.loop-position.position c.as_slice-list.result.now) =
    c.loop-position.invariant in
    so_far
    ∙ ap (numbered (run_source c.homes-homes.result.now) 1) (all ∙ c.as_slice-list.ensures.lent)
    ∙ ap (λ (homes : List Home). numbered (run_source homes) 1 c.args.runs.now.runs) c.homes-homes.ensures
