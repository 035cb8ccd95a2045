use Rattle.std.proofs.Common.{◌≡◌, take}
use Rattle.json.specs.Print.{escape}
use Rattle.renderreport.proofs.texts.is_plain.Given as goal

-- no byte so far is escaped
abbrev pub invariant-loop-byte : goal.invariant-loop-byte
invariant-loop-byte l = escape (take l.byte-index l.text) ≡ take l.byte-index l.text
