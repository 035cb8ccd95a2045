use Rattle.std.proofs.Common.{[]}
use Rattle.comparison.proofs.Lanes.{four_as, upper24}
use Rattle.comparison.proofs.depths.four_twenty_four.Goals as goal

pub returns : goal.returns
returns c =
    four_as 24 3 c.args.bytes _ _ _ _ (upper24 c.args.bytes c.fits-bytes.1 0 []) (upper24 c.args.bytes c.fits-bytes.1 3 [])
    (upper24 c.args.bytes c.fits-bytes.1 6 []) (upper24 c.args.bytes c.fits-bytes.1 9 [])
