-- A rendering by values is one by what the words choose that say these values.
use Rattle.std.proofs.Common.{◌≡◌, ℕ, Bool, List, Ok, subst, sym}
use Rattle.devices.specs.declared.source.Shelf as source
use Rattle.devices.specs.declared.bench.Bench as output
use Rattle.list_terms.specs.Accepted.{OptionValues}
use Rattle.list_terms.specs.Text.{rate_of}
use Rattle.rendering.specs.declared.job_length.JobLength.{JobLength}
use Rattle.commandline.specs.CommandLine.{Chosen}
use Rattle.console.specs.declared.console.Console as console
use Rattle.answers.specs.Answers.{IsAnswered, RendersAs, RendersBy, ResumesAs, ResumesBy, rendered_lines, resumed_lines}
use Rattle.answers.specs.Times.{values_of}

pub answered_by : {S B O : Type 0} (shelf : source.Ghosts S) (bench : output.Ghosts B) (out : console.Ghosts O)
    (jobs : JobLength) (chosen : Chosen) (is_reported : Bool) (values : OptionValues) (list : List ℕ)
    (shelf_old shelf_new : S) (bench_old bench_new : B)
    (old new : O) (status : ℕ) → chosen.report ≡ is_reported → values_of (rate_of list) chosen ≡ Ok values
    → IsAnswered (RendersAs shelf bench is_reported jobs list values shelf_old shelf_new bench_old bench_new)
    rendered_lines out old new status
    → IsAnswered (RendersBy shelf bench jobs chosen list shelf_old shelf_new bench_old bench_new)
    rendered_lines out old new status
answered_by shelf bench out jobs chosen is_reported values list shelf_old shelf_new bench_old bench_new old new
    status same read is = record {
      outcome = is.outcome;
      called = record {
        values = values;
        read = read;
        rendering = subst (λ (b : Bool). RendersAs shelf bench b jobs list values shelf_old shelf_new bench_old
            bench_new is.outcome) (sym same) is.called;
      };
      status_is = is.status_is;
      printed = is.printed;
    }

pub resumed_by : {S B O : Type 0} (shelf : source.Ghosts S) (bench : output.Ghosts B) (out : console.Ghosts O)
    (jobs : JobLength) (chosen : Chosen) (is_reported : Bool) (values : OptionValues) (list : List ℕ)
    (shelf_old shelf_new : S) (bench_old bench_new : B)
    (old new : O) (status : ℕ) → chosen.report ≡ is_reported → values_of (rate_of list) chosen ≡ Ok values
    → IsAnswered (ResumesAs shelf bench is_reported jobs list values shelf_old shelf_new bench_old bench_new)
    resumed_lines out old new status
    → IsAnswered (ResumesBy shelf bench jobs chosen list shelf_old shelf_new bench_old bench_new)
    resumed_lines out old new status
resumed_by shelf bench out jobs chosen is_reported values list shelf_old shelf_new bench_old bench_new old new
    status same read is = record {
      outcome = is.outcome;
      called = record {
        values = values;
        read = read;
        resuming = subst (λ (b : Bool). ResumesAs shelf bench b jobs list values shelf_old shelf_new bench_old
            bench_new is.outcome) (sym same) is.called;
      };
      status_is = is.status_is;
      printed = is.printed;
    }
