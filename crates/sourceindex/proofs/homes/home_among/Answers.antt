use Rattle.std.proofs.Common.{◌≡◌, ◌∙◌, ap, take, length, arith, Some, nat_eq, true, false, refl, sym}
use Rattle.std.proofs.lemmas.Bool.Decides.{nat_tests}
use Rattle.list_terms.specs.BoundHomes.{home_at, home_from}
use Rattle.sourceindex.specs.Homes.{least_so_far}
use Rattle.sourceindex.proofs.HomeTable.{index_in, one_index, other_file, own_file}
use Rattle.sourceindex.proofs.homes.home_among.Goals as goal
use Rattle.sourceindex.proofs.homes.home_among.Goals.{then-index-file, else-index-file}

pub loop-i-preserved : goal.loop-i-preserved
loop-i-preserved c =
    let indexes = c.args.indexes.now in
    let file = c.args.file in
    let i = c.loop-i.i in
    let index = index_in indexes i in
    let before = take i indexes in
    let (many, here) = one_index indexes i c.loop-i-test.true in
    elim c.if-index-file.branch [
      | then-index-file w ↦
          let is : nat_eq index.file file ≡ true = grind (arith, nat_tests, w.if-index-file.true) in
          let value : w.least.result ≡ least_so_far (home_from 0 before file) (home_at (length before) index) =
          w.least.ensures ∙ rw (c.loop-i.invariant, w.home_at.ensures, many) refl in
          rw here (w.home-is ∙ ap (λ h. Some h) value ∙ sym (own_file before index file is))
      | else-index-file w ↦
          let other : nat_eq index.file file ≡ false = grind (arith, nat_tests, w.if-index-file.false) in
          rw here (w.home-is ∙ c.loop-i.invariant ∙ sym (other_file before index file other))
    ]
