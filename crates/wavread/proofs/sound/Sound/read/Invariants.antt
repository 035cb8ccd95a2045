use Rattle.std.proofs.Common.{◌≡◌, ℕ, ◌+◌, ◌-◌, ◌<◌, ◌≤◌, List, Some, get_or, length, IsTrue}
use Rattle.std.specs.Prelude.{pos}
use Rattle.sound_terms.specs.Depth.{bits_of}
use Rattle.sound_terms.specs.Waves.{sample_at}
use Rattle.devices.specs.Frame.{IsQuiet}
use Rattle.wavread.proofs.sound.Sound.read.Given as goal

abbrev pub invariant-loop-done : goal.invariant-loop-done
invariant-loop-done g l = record {
  within : l.done ≤ length l.samples;
  sources : IsQuiet g.S.Shelf l.fn.shelf l.shelf;
  filled : IsTrue (g.S.Shelf.honest l.fn.shelf) → (file : List ℕ) → g.S.Shelf.stored l.fn.shelf l.self.name ≡ Some file
      → (i : ℕ) → i < l.done → get_or l.samples i (pos 0)
      ≡ sample_at file l.self.offset l.self.channels (bits_of l.self.depth) (l.from + i) l.channel;
}

abbrev pub decreases-loop-done : goal.decreases-loop-done
decreases-loop-done g l = length l.initial.samples - l.done
