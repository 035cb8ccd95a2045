-- Options of a report.
use Rattle.std.specs.Prelude.{ℕ, Bool, List}
use Rattle.provenance.specs.declared.asked.ReportOn.{ReportOn}

-- name and version of the program, the text of the input list, and whether sources are also hashed as a whole
pub record AskedReport : Type 0 where
  pub program : List ℕ
  pub version : List ℕ
  pub list : List ℕ
  pub digests : Bool

-- the options in a contract's terms
abbrev pub asked_of : ReportOn → AskedReport
asked_of on = record {
  program = on.program.now;
  version = on.version.now;
  list = on.list.now;
  digests = on.digests;
}
