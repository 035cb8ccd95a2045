use Rattle.std.proofs.Common.{◌∙◌, ap, sym, subst, List, Bool, ◌<◌, length, get_or, set, arith}
use Rattle.std.proofs.lemmas.List.{get_or_default}
use Rattle.job_terms.specs.declared.Job.{Job}
use Rattle.workboard.specs.Indexed.{IsIndexed, AreCounts}
use Rattle.workboard.proofs.Tables.{indexed-put}
use Rattle.workboard.proofs.board.Board.put.Goals as goal

pub invariant_of-self : goal.invariant_of-self
invariant_of-self c =
    let there : c.args.k < length c.self.inside.jobs.items = omega (
      arith,
      c.requires.there,
      ap (λ b. length b.jobs)
          c.self.view_is,
    ) in
    let at = c.index.ensures ∙ get_or_default c.self.inside.places.items c.args.k c.index.result.now 0
    (omega (arith, c.self.invariant.placed_all, there)) in
    let firsts = c.set.ensures ∙ ap (λ p. set c.self.inside.firsts p c.givable.result) at
    ∙ ap (λ b. set c.self.inside.firsts (get_or c.self.inside.places.items c.args.k 0) b) c.givable.ensures in
    subst (λ (f : List Bool). IsIndexed (set c.self.inside.jobs.items c.args.k c.args.job) c.self.inside.order.items
    c.self.inside.places.items f c.counts_with-self-inside.result) (sym firsts)
    (indexed-put c.self.inside.jobs.items c.self.inside.order.items c.self.inside.places.items c.self.inside.firsts
    c.self.inside.counts c.counts_with-self-inside.result c.args.k c.args.job
    c.self.invariant there c.requires.counted
    (subst (λ (js : List Job). AreCounts c.counts_with-self-inside.result (set js c.args.k c.args.job))
    c.deref.ensures.value c.counts_with-self-inside.ensures))
