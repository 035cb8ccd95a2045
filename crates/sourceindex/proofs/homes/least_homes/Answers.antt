use Rattle.std.proofs.Common.{◌≡◌, ◌∙◌, ◌<◌, take, length, arith, get_or, None, refl, length-set}
use Rattle.list_terms.specs.BoundHomes.{home_at}
use Rattle.sourceindex.specs.Homes.{least_so_far}
use Rattle.sourceindex.proofs.Places.{read_as}
use Rattle.sourceindex.proofs.HomeTable.{index_in, least_put, least_skipped, one_index}
use Rattle.sourceindex.proofs.homes.least_homes.Goals as goal
use Rattle.sourceindex.proofs.homes.least_homes.Goals.{then-file-len, else-file-len}

pub loop-i-preserved : goal.loop-i-preserved
loop-i-preserved c =
    let indexes = c.args.indexes.now in
    let i = c.loop-i.i in
    let homes = c.loop-i.homes.items in
    let index = index_in indexes i in
    let before = take i indexes in
    let (many, here) = one_index indexes i c.loop-i-test.true in
    elim c.if-file-len.branch [
      | then-file-len w ↦
          let inside : index.file < length homes = omega (arith, w.if-file-len.true, c.len.ensures) in
          let read = read_as homes index.file w.index.result.now None w.index.result.now inside w.index.ensures refl in
          let value : w.least.result ≡ least_so_far (get_or homes index.file None) (home_at (length before) index) =
          w.least.ensures ∙ rw (c.home_at-home.ensures, read, many, c.in-Ok.ensures.1) refl in
          record {
            least = rw (here, w.homes-is, value) (least_put homes before index c.loop-i.invariant.least inside);
            count = rw w.homes-is (length-set homes index.file _ ∙ c.loop-i.invariant.count);
          }
      | else-file-len w ↦ record {
        least = rw (here, w.homes-is) (least_skipped homes before index c.loop-i.invariant.least
            (omega (arith, w.if-file-len.false, c.len.ensures)));
        count = rw w.homes-is c.loop-i.invariant.count;
      }
    ]
