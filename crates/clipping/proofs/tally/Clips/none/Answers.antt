use Rattle.std.proofs.Common.{sym, ap}
use Rattle.std.specs.Prelude.{length}
use Rattle.clipping.specs.Clips.{is_clipped}
use Rattle.clipping.proofs.Counted.{none_first, none_kept, none_loud}
use Rattle.clipping.proofs.Marked.{none_on, none_set}
use Rattle.clipping.proofs.tally.Clips.none.Goals as goal

pub returns : goal.returns
returns c = λ depth channels sums none.
    record {
      samples = sym (ap length (none_kept (is_clipped depth) sums none));
      first = sym (none_first (is_clipped depth) sums none);
      peak = sym (none_loud depth sums none);
      on_channels = λ channel.
          (λ set. none_set channel set _, λ is. none_on depth channels sums channel none is _);
    }
