use Rattle.std.proofs.Common.{List, ℕ, subst}
use Rattle.adlwrite.specs.LeftText.{IsLeftText}
use Rattle.adlwrite.proofs.LeftText.{grown, only_grown}
use Rattle.adlwrite.proofs.text_file.TextFileBench.append.Goals as goal

pub returns-clause-crash : goal.returns-clause-crash
returns-clause-crash c = λ d left.
    grown c.args.self.now.text.items c.args.bytes.now c.args.name.now d c.if-name-ne0.false
    (subst (λ (text : List ℕ). IsLeftText text d) c.in-Ok.ensures.items left)

pub returns-clause-only_writes : goal.returns-clause-only_writes
returns-clause-only_writes c = only_grown c.args.self.now _ c.args.name.now c.if-name-ne0.false tt

pub returns-in-Err-clause-only_writes : goal.returns-in-Err-clause-only_writes
returns-in-Err-clause-only_writes c = only_grown c.args.self.now _ c.args.name.now c.if-name-ne0.false (λ device. tt)
