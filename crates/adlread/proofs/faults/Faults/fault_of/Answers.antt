use Rattle.std.proofs.Common.{◌∙◌, refl, sym, true}
use Rattle.sampletime.specs.FrameRate.{frames_per_second}
use Rattle.adlread.specs.Context.{context_of}
use Rattle.adlread.specs.Further.{left}
use Rattle.adlread.proofs.FurtherFaults.{end-left, read-left}
use Rattle.adlread.proofs.faults.Faults.fault_of.Goals as goal

pub returns-then-not-is_behind-clause-next : goal.returns-then-not-is_behind-clause-next
returns-then-not-is_behind-clause-next c before further complete on at are =
    let number = at ∙ sym c.number-number.ensures in
    read-left (record c.args.self.now {
      draft = c.add.new.self;
      is_in_faulty_entry = c.left_of-line.new.is_in_faulty_entry;
    }) (context_of c.args.self.now.draft) before c.number-number.result c.left_of-line.result.now further complete on
    number c.number-number.ensures c.in_default.ensures.exact (sym c.is_behind.ensures ∙ c.if-not-is_behind.true)
    (c.left_of-line.ensures before c.args.self.now.lines.lines number) are

pub returns-clause-next : goal.returns-clause-next
returns-clause-next c before further complete on at are =
    let number = at ∙ sym c.number-number.ensures in
    end-left c.missing-missing.result (record c.args.self.now {
      draft = c.add.new.self;
      is_in_faulty_entry = c.left_of-line.new.is_in_faulty_entry;
      is_over = true;
      is_cut_short = c.is_some-self.result;
    }) (frames_per_second c.args.self.now.rate) (context_of c.args.self.now.draft) (context_of c.add.new.self) before
    c.number-number.result c.left_of-line.result.now
    (left c.args.self.now.first c.left_of-line.new.is_in_faulty_entry c.number-number.result
    c.args.self.now.lines.lines) further complete refl c.is_some-self.ensures number c.in_default.ensures.exact
    (sym c.is_behind.ensures ∙ c.if-not-is_behind.false)
    (c.missing-missing.ensures.exact (frames_per_second c.args.self.now.rate))
    (c.left_of-line.ensures before c.args.self.now.lines.lines number) are
