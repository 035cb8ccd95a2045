use Rattle.std.proofs.Common.{◌≡◌, ◌↔◌}
use Rattle.std.specs.List.{AllWithin}
use Rattle.shelf.proofs.folder.handle.greatest.Given as goal

-- the maximum is 0 exactly if all bytes so far are 0
abbrev pub invariant-loop-byte : goal.invariant-loop-byte
invariant-loop-byte l = (l.greatest ≡ 0) ↔ AllWithin (λ byte. byte ≡ 0) l.bytes 0 l.byte-index
