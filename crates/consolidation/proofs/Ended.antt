-- What a consolidation whose media are whole and whose list stands is.
use Rattle.std.proofs.Common.{◌≡◌, ◌∙◌, ℕ, ◌+◌, true, codes, List, length, Option, Some, is_some, ap, refl, slice_get}
use Rattle.facts.specs.Lists.{holds_there}
use Rattle.sound_terms.specs.declared.piece.Run.{Run}
use Rattle.sound_terms.specs.Media.{sound_at}
use Rattle.work_terms.specs.Disk.{Files}
use Rattle.passes.specs.Left.{Leaving}
use Rattle.list_terms.specs.Binding.{Binding, nothing_bound}
use Rattle.list_terms.specs.BoundHomes.{homes_of}
use Rattle.list_terms.specs.Heard.{IsAccepted, reading_of, sounds_of}
use Rattle.list_terms.specs.Project.{ListProject}
use Rattle.list_terms.specs.Renewed.{consolidated_project, media_name}
use Rattle.list_terms.specs.WrittenText.{text_of_project}
use Rattle.execution.specs.Plan.{HoldJobs}
use Rattle.mediacopy.specs.Pieces.{content}
use Rattle.provenance.specs.Asked.{AskedReport}
use Rattle.consolidation.specs.Consolidated.{HoldsMedium, IsConsolidated, IsElsewhere}
use Rattle.consolidation.specs.Outputs.{job_plan}
use Rattle.consolidation.specs.Planned.{IsMediaPlan, IsMediumRun, IsPlanOf, MediaPlan}
use Rattle.consolidation.specs.Reported.{IsReportThere, told_of}
use Rattle.consolidation.specs.Sizes.{written_of}
use Rattle.consolidation.specs.There.{AreThere}
use Rattle.consolidation.specs.Work.{HasMedia, HasMedium, SoundsTheSame, run_events}
use Rattle.consolidation.specs.Jobs.{medium_by}
use Rattle.consolidation.proofs.Checks.{Stand, checks_files, report_holds}
use Rattle.consolidation.proofs.CopiedReading.{copied}
use Rattle.consolidation.proofs.MediaBound.{media_bound, with_media}
use Rattle.consolidation.proofs.Wholes.{held, source_there}

module _ (plan : MediaPlan) (is : IsMediaPlan plan) (leave : Leaving) (project : ListProject) (binding : Binding)
    (handle : ℕ) (asked : Option AskedReport) (sources written : Files)
    (of : IsPlanOf leave project binding handle asked true sources plan) (there : AreThere sources plan.sounds)
    (holds : HoldJobs (job_plan plan) sources written) (list : written (codes "consolidated.adl") ≡ Some plan.text)
  where
    -- its media stand
    stand : Stand (sounds_of binding) (homes_of binding) sources written 1 plan.runs
    stand = rw (of.planned.sounds, of.planned.homes) at (held plan is sources written holds)

    -- and are there, as they are read and byte for byte
    media : (k : ℕ) (run : Run) → slice_get plan.runs k ≡ Some run
        → HasMedium sources written (sounds_of binding) (homes_of binding) (1 + k) run
        × HoldsMedium binding sources written (1 + k) run
    media k run at =
        let sounds = sounds_of binding in
        let medium_run = holds_there (IsMediumRun sounds (homes_of binding)) plan.runs k run of.planned.media at in
        let of_file = medium_run.addressed.of_file in
        let opened : slice_get sounds run.file ≡ Some (sound_at sounds run.file) = rw of_file.there in
        let source = source_there sounds sources run of_file (rw of.planned.sounds at there) in
        let medium = medium_run.medium _ source.1 in
        let stands = stand k (1 + k) run refl at in (
          record {
            opened = opened;
            source = content sources (sound_at sounds run.file).name;
            source_there = source.0;
            inside = rw of_file.there of_file.inside;
            in_day = medium_run.addressed.in_day;
            file = medium_by sounds (homes_of binding) sources run;
            there = stands;
            reads_back = medium.reads_back (media_name (1 + k));
            samples = medium.samples;
          },
          record {
            facts = sound_at sounds run.file;
            opened = opened;
            source = content sources (sound_at sounds run.file).name;
            there = source.0;
            medium = stands;
          },
        )

    -- the list is accepted again, and sounds the same
    pub same_sound : (text : List ℕ) → IsAccepted text sources project binding → SoundsTheSame text sources written
    same_sound text accepted =
        let planned = of.planned in
        let sounds = sounds_of binding in
        let homes = homes_of binding in
        let renewed = consolidated_project project homes of.groups plan.runs in
        let events = run_events homes plan.runs of.groups in
        let has : HasMedia sources written sounds homes plan.runs = λ k run at. (media k run at).0 in
        let bound = with_media sources written sounds homes events nothing_bound 1 plan.runs in
        record {
          given = project;
          given_binding = binding;
          accepted = accepted;
          list = text_of_project renewed;
          there = list ∙ ap Some planned.text;
          renewed = renewed;
          renewed_binding = bound;
          accepted_again = record {
            spelt = planned.linked.reads_back;
            bound = media_bound sources written sounds homes events plan.runs is.few has planned.linked.all_used;
            checked = planned.linked.no_fault bound refl refl;
          };
          same = λ channel time.
              planned.linked.relinked (reading_of sources binding) _
              (copied sounds homes sources written plan.runs has) channel time
              ∙ (of.left refl).same_mix channel time;
        }

    -- all that is to be written is
    pub consolidated : (old : Files)
        → ((n : List ℕ) → IsElsewhere (is_some asked) (length plan.runs) n → written n ≡ old n)
        → IsReportThere plan.report written
        → IsConsolidated leave project binding handle asked sources old written (written_of plan)
    consolidated old others report_there =
        let planned = of.planned in
        let report = report_holds asked sources (told_of project binding handle of.groups plan.runs) plan.report written
        (of.report refl) report_there in
        record {
          work = record { groups = of.groups; runs = plan.runs };
          is_work = record { groups = (of.left refl).gives; runs = planned.kept };
          list = list ∙ ap Some planned.text;
          media = λ k run at. (media k run at).1;
          report = report;
          checks = checks_files asked sources written project binding handle of.groups plan.runs report
              (list ∙ ap Some planned.text) stand;
          others = others;
          media_count = refl;
          entry_count = planned.entries;
          sizes = rw (planned.sounds, planned.text);
        }
