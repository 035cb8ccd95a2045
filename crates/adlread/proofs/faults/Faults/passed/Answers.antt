use Rattle.std.proofs.Common.{◌∙◌, refl, sym}
use Rattle.std.specs.Prelude.{◌||◌}
use Rattle.sampletime.specs.FrameRate.{frames_per_second}
use Rattle.adlread.specs.Context.{context_of}
use Rattle.adlread.specs.Further.{left}
use Rattle.adlread.proofs.FurtherFaults.{cut-left, emptied-left, passed-alone, passed-cut}
use Rattle.adlread.proofs.faults.Faults.passed.Goals as goal

pub returns-then-not-is_of_its_own-clause-next : goal.returns-then-not-is_of_its_own-clause-next
returns-then-not-is_of_its_own-clause-next c before further complete on at number reads are =
    passed-cut c.unless_memory.result c.args.fault c.cut_short.new.self (frames_per_second c.args.self.now.rate)
    (context_of c.args.self.now.draft) before c.args.number c.args.line.now
    (left c.args.self.now.first c.args.self.now.is_in_faulty_entry c.args.number c.args.self.now.lines.lines)
    further complete at c.unless_memory.ensures (sym c.is_of_its_own.ensures ∙ c.if-not-is_of_its_own.true) reads are
    c.cut_short.ensures.over c.cut_short.ensures.cut

pub returns-in-Err-clause-next : goal.returns-in-Err-clause-next
returns-in-Err-clause-next c before further complete on at number reads are =
    let (others, same, _) =
    passed-alone c.args.self.now c.args.fault before c.args.number c.args.line.now further complete at
    (sym c.is_of_its_own.ensures ∙ c.if-not-is_of_its_own.false) reads are in (
      others,
      same,
      cut-left c.cut_short-in-Err.new.self others complete c.cut_short-in-Err.ensures.over
          c.cut_short-in-Err.ensures.cut,
    )

pub returns-in_default-clause-next : goal.returns-in_default-clause-next
returns-in_default-clause-next c before further complete on at number reads are =
    let (others, same, next) =
    passed-alone c.args.self.now c.args.fault before c.args.number c.args.line.now further complete at
    (sym c.is_of_its_own.ensures ∙ c.if-not-is_of_its_own.false) reads are in (
      others,
      same,
      emptied-left (record c.args.self.now {
        draft = c.add.new.self;
        is_in_faulty_entry = c.args.self.now.is_in_faulty_entry || c.opens_entry.result;
      }) others complete c.args.number c.args.self.now.is_in_faulty_entry c.opens_entry.result c.args.line.now on number
          refl c.opens_entry.ensures (next (context_of c.add.new.self) c.in_default.ensures.exact),
    )
