use Rattle.std.proofs.Common.{◌≡◌, List, ◌++◌, sym, ◌∙◌, subst, length, take, drop}
use Rattle.std.specs.Prelude.{ℤ, OnOk}
use Rattle.std.proofs.lemmas.List.{take_at}
use Rattle.comparison.specs.Side.{AreBlockSums, SideState, first_sums, heard}
use Rattle.comparison.proofs.side.Side.sum.Goals as goal

pub returns-clause-summed : goal.returns-clause-summed
returns-clause-summed g c = λ honest.
    let work = c.args.self.now.work in
    let files = g.S.Shelf.stored c.args.shelf.now in
    let sums = c.sum_block.new.sums in
    let room = c.self.inside.sums in
    let back : take room.len (sums ++ drop (length sums) room.items) ≡ sums =
    take_at sums (drop (length sums) room.items) room.len (c.sum_block.auto.sums ∙ c.as_mut_slice-sums.ensures.len) in
    subst (λ (l : List ℤ). OnOk c.sum_block.result
    (AreBlockSums work.planned.range (heard work files) c.args.k (first_sums work.planned.range c.args.k l))) (sym back)
    (subst (λ (s : SideState). OnOk c.sum_block.result
    (AreBlockSums s.work.planned.range (heard s.work files) c.args.k (first_sums s.work.planned.range c.args.k sums)))
    c.self.view_is (c.sum_block.ensures.summed honest))
