use Rattle.std.proofs.Common.{List, ◌∷◌, [], length, length-append, refl, ap, arith, rules}
use Rattle.shelf.specs.declared.memory.call.Call.{Call}
use Rattle.shelf.specs.Files.{files_of}
use Rattle.shelf.proofs.Replayed.{begins, ends, goes_on}
use Rattle.shelf.proofs.memory.record.Record.after_crash.Goals as goal

pub loop-call-init : goal.loop-call-init
loop-call-init c = begins _ _ _ _ _ _ c.in_ok-read.ensures (λ name. refl)

pub loop-call-smaller : goal.loop-call-smaller
loop-call-smaller c =
    let shorter = ap (λ (calls : List Call). length calls) c.in-Some.ensures.items in
    omega (arith, shorter, length-append c.pop_back.new.self.items (c.in-Some.call ∷ []))

pub loop-call-preserved : goal.loop-call-preserved
loop-call-preserved c =
    goes_on _ _ _ _ c.in-Some.call c.loop-call.calls.items c.pop_back.new.self.items (files_of c.loop-call.read)
    (files_of c.loop-call.left) (files_of c.apply.new.self) (files_of c.lose.new.self) c.in-Some.ensures.items
    c.loop-call.invariant c.in_ok-lose.ensures.left c.in_ok-apply.ensures.done

pub returns-clause-left : goal.returns-clause-left
returns-clause-left c = λ name.
    ends _ _ _ _ c.loop-call.calls.items (files_of c.loop-call.read) (files_of c.loop-call.left) (search rules)
    c.loop-call.invariant name
