use Rattle.std.proofs.Common.{◌≡◌, ◌≤◌, ◌∙◌, List, Bool, arith, eqb-true, length, map, sym}
use Rattle.std.proofs.lemmas.List.{length-map}
use Rattle.std.proofs.lemmas.Simd.{length-zip2, mask_l-mod}
use lib.Lanes.{top, zip2}
use Rattle.comparison.proofs.Lanes.{differs, same_by_mask}
use Rattle.comparison.proofs.depths.are_equal.Goals as goal

pub returns : goal.returns
returns c = λ yes.
    let bytes = c.args.bytes in
    let others = c.args.others in
    let long : length bytes ≡ length others = c.fits-bytes.0 ∙ sym c.fits-others.0 in
    let bits : List Bool = map (top 7) (zip2 differs bytes others) in
    let few : length bits ≤ 64 =
    omega (arith, length-map (zip2 differs bytes others) (top 7), length-zip2 differs bytes others long, c.fits-bytes.0) in
    same_by_mask bytes others long (sym (mask_l-mod bits 64 few) ∙ eqb-true _ _ yes)
