use Rattle.std.proofs.Common.{◌≡◌, ◌∙◌, ◌+◌, ◌∷◌, ◌++◌, [], IsTrue, add-one, ap, rules, subst, sym, take, take-suc}
use Rattle.std.specs.List.{list_all}
use Rattle.list_terms.specs.Project.{Source}
use Rattle.list_terms.specs.WholeProject.{is_source}
use Rattle.sourceindex.specs.Fault.{at_index}
use Rattle.sourceindex.proofs.Faults.{read_on}
use Rattle.sourceindex.proofs.InTurn.{one_more}
use Rattle.sourceindex.proofs.RefusedSource.{first_there, owned_there, refused_there}
use Rattle.sourceindex.proofs.binding.bind.Goals as goal

pub returns-in-Err-clause-exact : goal.returns-in-Err-clause-exact
returns-in-Err-clause-exact g c = λ honest.
    let read = c.loop-source.invariant.read in
    let told = c.in-Err.ensures.taken (subst IsTrue (sym read.honest_same) honest) in
    refused_there c.args.project.now c.as_slice-sources.result.now c.loop-source.source-index c.source-item.result c.in-Err.fault
    c.of_index.result (c.as_slice-sources.ensures.sources ∙ c.sources.ensures.sources) c.source-item.is c.loop-source-test.true
    (c.of_index.ensures ∙ ap (λ n. at_index n c.in-Err.fault) c.number.ensures) c.in-Err.ensures.named
    (g.S.Shelf.stored c.args.shelf.now) c.loop-source.binder (c.loop-source.invariant.so_far honest)
    (rw (read.same, c.new-used.ensures, c.events.ensures.events) at told)

pub returns-in-Err-clause-own : goal.returns-in-Err-clause-own
returns-in-Err-clause-own g c =
    let whole = subst (λ l. IsTrue (list_all is_source l)) (sym c.as_slice-sources.ensures.sources) c.sources.ensures.whole in
    owned_there c.args.project.now c.as_slice-sources.result.now c.loop-source.source-index c.source-item.result c.in-Err.fault
    c.of_index.result (c.as_slice-sources.ensures.sources ∙ c.sources.ensures.sources) c.source-item.is c.loop-source-test.true
    (c.of_index.ensures ∙ ap (λ n. at_index n c.in-Err.fault) c.number.ensures) c.in-Err.ensures.named
    whole (rw (c.new-used.ensures, c.events.ensures.events) at c.in-Err.ensures.used)

pub returns-in-Err-clause-in_turn : goal.returns-in-Err-clause-in_turn
returns-in-Err-clause-in_turn g c = λ honest.
    let whole = subst (λ l. IsTrue (list_all is_source l)) (sym c.as_slice-sources.ensures.sources) c.sources.ensures.whole in
    first_there c.args.project.now c.as_slice-sources.result.now c.loop-source.source-index c.source-item.result c.in-Err.fault
    c.of_index.result (c.as_slice-sources.ensures.sources ∙ c.sources.ensures.sources) c.source-item.is c.loop-source-test.true
    (c.of_index.ensures ∙ ap (λ n. at_index n c.in-Err.fault) c.number.ensures) c.in-Err.ensures.named
    whole (g.S.Shelf.stored c.args.shelf.now) c.loop-source.binder (c.loop-source.invariant.so_far honest)

pub returns-in-Err-clause-only_reads : goal.returns-in-Err-clause-only_reads
returns-in-Err-clause-only_reads g c =
    let source : Source = c.source-item.result in
    let fault : c.of_index.result ≡ at_index source.number c.in-Err.fault =
    c.of_index.ensures ∙ ap (λ n. at_index n c.in-Err.fault) c.number.ensures in
    let shelf = g.S.Shelf in
    read_on shelf.stored shelf.honest shelf.failures shelf.failed_at c.args.shelf.now c.loop-source.shelf
    c.take.new.shelf source c.in-Err.fault c.of_index.result fault c.in-Err.ensures.named
    c.loop-source.invariant.read c.in-Err.ensures.only_reads

pub loop-source-preserved : goal.loop-source-preserved
loop-source-preserved g c =
    let project = c.args.project.now in
    let files = g.S.Shelf.stored c.args.shelf.now in
    let sources = c.as_slice-sources.result.now in
    let place = c.loop-source.source-index in
    let source : Source = c.source-item.result in
    let here : take (place + 1) sources ≡ take place sources ++ source ∷ [] =
    ap (λ n. take n sources) (add-one place) ∙ take-suc sources place source c.loop-source-test.true
    ∙ ap (λ s. take place sources ++ s ∷ []) (sym c.source-item.is) in
    let read = c.loop-source.invariant.read in
    record {
      so_far = λ honest.
          let told = c.in_default.ensures.taken (subst IsTrue (sym read.honest_same) honest) in
          rw here (one_more files project.events c.loop-source.binder c.take.new.self (take place sources) source
          (c.loop-source.invariant.so_far honest) (rw (read.same, c.new-used.ensures, c.events.ensures.events) at told));
      sound = c.in_default.ensures.sound c.loop-source.invariant.sound;
      read = search rules;
    }
