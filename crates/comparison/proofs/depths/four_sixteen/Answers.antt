use Rattle.std.proofs.Common.{[]}
use Rattle.comparison.proofs.Lanes.{four_as, upper16}
use Rattle.comparison.proofs.depths.four_sixteen.Goals as goal

pub returns : goal.returns
returns c =
    four_as 16 2 c.args.bytes _ _ _ _ (upper16 c.args.bytes c.fits-bytes.1 0 []) (upper16 c.args.bytes c.fits-bytes.1 2 [])
    (upper16 c.args.bytes c.fits-bytes.1 4 []) (upper16 c.args.bytes c.fits-bytes.1 6 [])
