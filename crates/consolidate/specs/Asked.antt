-- Which report of a consolidation is asked for.
use Rattle.std.specs.Prelude.{ℕ, List}
use Rattle.provenance.specs.Asked.{AskedReport}
use Rattle.consolidate.specs.declared.report.ReportChoice.{ReportChoice}

-- on the list of this text
abbrev pub asked_on : (list : List ℕ) → ReportChoice → AskedReport
asked_on list choice = record {
  program = choice.program.now;
  version = choice.version.now;
  list = list;
  digests = choice.digests;
}
