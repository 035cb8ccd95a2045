use Rattle.std.proofs.Common.{◌≡◌, ◌↔◌}
use Rattle.std.specs.List.{AllWithin}
use Rattle.riff.proofs.zeros.are_zeros.Given as goal

-- the greatest byte is 0 exactly if all bytes so far are
abbrev pub invariant-loop-byte : goal.invariant-loop-byte
invariant-loop-byte l = (l.greatest ≡ 0) ↔ AllWithin (λ byte. byte ≡ 0) l.bytes 0 l.byte-index
