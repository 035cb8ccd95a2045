-- The files of a report hold what it is made of, and the checksums are those of the files that stand.
use Rattle.std.proofs.Common.{◌≡◌, ℕ, suc, ◌+◌, Bool, List, [], ◌∷◌, Option, None, Some, arith, codes, flat_map, refl, slice_get}
use Rattle.sound_terms.specs.declared.piece.Home.{Home}
use Rattle.sound_terms.specs.declared.piece.Piece.{Piece}
use Rattle.sound_terms.specs.declared.piece.Run.{Run}
use Rattle.sound_terms.specs.Sounds.{SoundFacts}
use Rattle.work_terms.specs.Disk.{Files}
use Rattle.list_terms.specs.Binding.{Binding}
use Rattle.list_terms.specs.BoundHomes.{homes_of}
use Rattle.list_terms.specs.Heard.{sounds_of}
use Rattle.list_terms.specs.Project.{ListProject}
use Rattle.list_terms.specs.Renewed.{consolidated_project, media_name, numbered}
use Rattle.list_terms.specs.WrittenText.{text_of_project}
use Rattle.provenance.specs.Asked.{AskedReport}
use Rattle.digests.specs.Media.{medium_by, medium_bytes}
use Rattle.provenance.specs.Report.{Told}
use Rattle.digests.specs.Sums.{medium_line}
use Rattle.provenance.specs.declared.report.Report.{Report}
use Rattle.consolidation.specs.Reported.{ChecksFiles, HasReport, HoldsReport, IsReportThere, checked_line, told_of}

-- what stands in its files is what it was made of
pub report_holds : (asked : Option AskedReport) (sources : Files) (told : AskedReport → Told) (report : Option Report)
    (written : Files) → HasReport asked sources told report → IsReportThere report written
    → HoldsReport asked sources told written
report_holds asked sources told report written is there = grind (arith, is, there)

-- the media of runs stand, where the first of them has this number
abbrev pub Stand : List SoundFacts → List Home → (sources written : Files) → ℕ → List Run → Type 0
Stand sounds homes sources written number runs = (k n : ℕ) (run : Run) → n ≡ number + k → slice_get runs k ≡ Some run
    → written (media_name n) ≡ Some (medium_bytes sources sounds homes run)

-- their lines
media_lines : (digests : Bool) (sounds : List SoundFacts) (homes : List Home) (sources written : Files) (number : ℕ)
    (runs : List Run) → Stand sounds homes sources written number runs
    → flat_map medium_line (numbered (medium_by digests sources sounds homes) number runs)
    ≡ flat_map (checked_line written) (numbered (λ n run. media_name n) number runs)
media_lines digests sounds homes sources written number [] stand = refl
media_lines digests sounds homes sources written number (run ∷ runs) stand =
    let rest = media_lines digests sounds homes sources written (suc number) runs
    (λ k n other is there. stand (suc k) n other (omega (arith, is)) there) in
    rw (stand 0 number run (omega arith) refl, rest)

-- behind them those of the list and of the report
pub checks_files : (asked : Option AskedReport) (sources written : Files) (project : ListProject) (binding : Binding)
    (handle : ℕ) (groups : List (List Piece)) (runs : List Run)
    → HoldsReport asked sources (told_of project binding handle groups runs) written
    → written (codes "consolidated.adl")
    ≡ Some (text_of_project (consolidated_project project (homes_of binding) groups runs))
    → Stand (sounds_of binding) (homes_of binding) sources written 1 runs → ChecksFiles asked runs written
checks_files None sources written project binding handle groups runs report list media = tt
checks_files (Some asked) sources written project binding handle groups runs report list media =
    let lines = media_lines asked.digests (sounds_of binding) (homes_of binding) sources written 1 runs media in
    rw (list, report.1, ← lines) report.0
