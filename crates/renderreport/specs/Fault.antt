-- Name of the file at which a report failed.
use Rattle.std.specs.Prelude.{ℕ, List}
use Rattle.renderreport.specs.Report.{report_name, sound_name}
use Rattle.renderreport.specs.declared.fault.ReportFault.{ReportFault}
use Rattle.renderreport.specs.declared.fault.ReportFault.TheVariants.{Sound, Report}

-- name of the file that failed
abbrev pub name_of : ReportFault → List ℕ
name_of Sound = sound_name
name_of Report = report_name
