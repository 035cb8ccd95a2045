use Rattle.std.proofs.Common.{◌∙◌, rules, sym}
use Rattle.std.proofs.lemmas.Bool.{or_left, or_right}
use Rattle.adlread.proofs.FurtherFaults.{first-next, none-left, nothing-left, step-left}
use Rattle.adlread.proofs.faults.Faults.next_fault.Goals as goal
use Rattle.adlread.proofs.faults.Faults.next_fault.Goals.{then-is_some-via-then-is_some, then-is_some-via-else-is_some+then-self-2}

pub returns-then-is_some : goal.returns-then-is_some
returns-then-is_some c = record {
  further = λ further complete is.
      first-next c.fault_of-fault.result c.fault_of-fault.new.self further complete
      (c.fault_of-fault.ensures.next c.lines.self.lines.number further complete c.lines.invariant.on
      (sym c.in-Some.ensures.line.1)
      (step-left c.lines.self c.next_line.new.self c.in-Some.line.now further complete c.in-Some.ensures.line.0
      c.lines.invariant.on (c.lines.invariant.left further complete is)))
      (elim c.then-is_some.branch [
        | then-is_some-via-then-is_some w ↦
            or_left _ _ (sym c.is_some.ensures ∙ w.if-is_some.true)
        | then-is_some-via-else-is_some+then-self-2 w ↦ or_right _ _ w.if-self-2.true
      ]);
}

pub lines-preserved : goal.lines-preserved
lines-preserved c = record {
  left = λ further complete is.
      none-left c.fault_of-fault.result c.fault_of-fault.new.self further complete
      (sym c.is_some.ensures ∙ c.if-is_some.false)
      (c.fault_of-fault.ensures.next c.lines.self.lines.number further complete c.lines.invariant.on
      (sym c.in-Some.ensures.line.1)
      (step-left c.lines.self c.next_line.new.self c.in-Some.line.now further complete c.in-Some.ensures.line.0
      c.lines.invariant.on (c.lines.invariant.left further complete is)));
  on = c.if-self-2.false;
}

pub returns : goal.returns
returns c = record {
  further = λ further complete is.
      nothing-left c.lines.self c.cut_short.new.self further complete c.at_line.result c.max-number.result
      c.first_in.result c.in_default.ensures.line.0 c.lines.invariant.on (c.lines.invariant.left further complete is)
      c.at_line.ensures (search rules) c.cut_short.ensures.over c.cut_short.ensures.cut;
}
