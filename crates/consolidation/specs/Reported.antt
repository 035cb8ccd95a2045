-- The report of a consolidation, where one is asked for, and the files that it is written to.
use Rattle.std.specs.Prelude.{◌≡◌, ◌≢◌, ℕ, ◌++◌, Bool, IsTrue, ⊤, List, Option, None, Some, codes}
use Rattle.std.specs.List.{flat_map}
use Rattle.sha2.specs.Sha256.{sha256}
use Rattle.sound_terms.specs.declared.piece.Piece.{Piece}
use Rattle.sound_terms.specs.declared.piece.Run.{Run}
use Rattle.work_terms.specs.Disk.{Files, IsDurable}
use Rattle.list_terms.specs.Binding.{Binding}
use Rattle.list_terms.specs.BoundHomes.{homes_of}
use Rattle.list_terms.specs.Project.{ListProject}
use Rattle.list_terms.specs.Renewed.{consolidated_project, media_name, numbered}
use Rattle.list_terms.specs.WrittenText.{text_of_project}
use Rattle.mediacopy.specs.Pieces.{content}
use Rattle.provenance.specs.Asked.{AskedReport}
use Rattle.provenance.specs.Report.{IsReportOf, Told, report_json, report_sums}
use Rattle.digests.specs.Sums.{sum_line}
use Rattle.provenance.specs.declared.report.Report.{Report}

-- what a report is made of, by the groups and the runs of a consolidation
abbrev pub told_of : ListProject → Binding → ℕ → List (List Piece) → List Run → AskedReport → Told
told_of project binding handle groups runs asked =
    let list = consolidated_project project (homes_of binding) groups runs in record {
      project = project;
      binding = binding;
      kept = record { homes = homes_of binding; runs = runs };
      events = list.events;
      text = text_of_project list;
      handle = handle;
      asked = asked;
    }

-- the report that is asked for, and none where none is asked for
abbrev pub HasReport : Option AskedReport → Files → (AskedReport → Told) → Option Report → Type 0
HasReport None sources told report = report ≡ None
HasReport (Some asked) sources told None = ⊥
HasReport (Some asked) sources told (Some report) = IsReportOf sources (told asked) report

-- the report stands in its files, where there is one
abbrev pub IsReportThere : Option Report → Files → Type 0
IsReportThere None written = ⊤
IsReportThere (Some report) written =
    (written (codes "SHA256SUMS") ≡ Some report.sums.items) × (written (codes "consolidated.json") ≡ Some
    report.json.items)

-- the checksums are in their file, if there is a report
abbrev pub IsSumsThere : Option Report → Files → Type 0
IsSumsThere None written = ⊤
IsSumsThere (Some report) written = written (codes "SHA256SUMS") ≡ Some report.sums.items

-- the files of the report that is asked for, and by what it is made
abbrev pub HoldsReport : Option AskedReport → Files → (AskedReport → Told) → Files → Type 0
HoldsReport None sources told written = ⊤
HoldsReport (Some asked) sources told written =
    (written (codes "SHA256SUMS") ≡ Some (report_sums sources (told asked)))
    × (written (codes "consolidated.json") ≡ Some (report_json sources (told asked)))

-- a line with the checksum of a file as it stands
abbrev pub checked_line : Files → (name : List ℕ) → List ℕ
checked_line written name = sum_line (sha256 (content written name)) name

-- the names of the media of runs
abbrev pub media_names : List Run → List (List ℕ)
media_names runs = numbered (λ number run. media_name number) 1 runs

-- the checksums are those of the media of these runs, of the list and of the report, as they stand
abbrev pub ChecksFiles : Option AskedReport → List Run → Files → Type 0
ChecksFiles None runs written = ⊤
ChecksFiles (Some asked) runs written =
    written (codes "SHA256SUMS") ≡ Some (flat_map (checked_line written) (media_names runs)
    ++ (checked_line written (codes "consolidated.adl") ++ checked_line written (codes "consolidated.json")))

-- none of the files of a report, where there is one
abbrev pub IsNoReport : Bool → List ℕ → Type 0
IsNoReport reported name = IsTrue reported → (name ≢ codes "SHA256SUMS") × (name ≢ codes "consolidated.json")

-- a crash leaves these files as they are read
abbrev pub IsReportDurable : Bool → Files → (Files → Type 0) → Type 0
IsReportDurable reported stored may_leave = IsTrue reported
    → IsDurable (codes "SHA256SUMS") stored may_leave × IsDurable (codes "consolidated.json") stored may_leave
