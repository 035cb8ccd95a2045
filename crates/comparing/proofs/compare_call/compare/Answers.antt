use Rattle.std.proofs.Common.{◌≡◌, ◌↔◌, ◌<◌, ◌≤◌, ◌∙◌, ℕ, List, Ok, Err, Option, Result, arith, rules, subst, sym}
use Rattle.facts.specs.Results.{one_value}
use Rattle.devices.specs.ReadLaws.{read_as, read_behind}
use Rattle.sound_terms.specs.Sounds.{SoundFacts}
use Rattle.work_terms.specs.Refusals.{Refusal}
use Rattle.list_terms.specs.Project.{ListProject}
use Rattle.comparison.specs.Fault as comparing
use Rattle.comparison.specs.Fault.{FailsAt}
use Rattle.comparison.specs.Range.{compared_in}
use Rattle.comparison.specs.declared.fault.CompareFault as of_sums
use Rattle.comparison.specs.declared.fault.CompareFault.TheVariants as sums
use Rattle.comparison.specs.declared.fault.SideFault.{SideFault}
use Rattle.comparison.specs.declared.fault.SideFault.TheVariants as side
use Rattle.comparing.specs.Comparing.{AnswersFirst, AnswersSecond}
use Rattle.comparing.specs.CompareFault.{HoldsOfDevice, IsReportedAs, IsReportedOfTwo, OfFirst, OfSecond}
use Rattle.comparing.specs.declared.compare_call.Compared.{Compared}
use Rattle.comparing.specs.declared.compare_fault.CompareFault.{CompareFault}
use Rattle.comparing.specs.declared.compare_fault.CompareFault.TheVariants.{First, Second}
use Rattle.comparing.specs.declared.compare_fault.ListFault.{ListFault}
use Rattle.comparing.specs.declared.compare_fault.ListFault.TheVariants.{Source}
use Rattle.comparing.proofs.compare_call.compare.Goals as goal

-- a text that spells a project isn't refused
no_fault : {project : ListProject} {refusal : Refusal} {read : Result ListProject Refusal} → read ≡ Ok project
    → read ≡ Err refusal → ⊥
no_fault good bad = let wrong = sym good ∙ bad in cc

-- if no empty range is reported, the range has samples
some_sums : {Empty : Type 0} {from to : ℕ} → Empty ↔ (to ≤ from) → ¬ Empty → from < to
some_sums {from = from} {to = to} empty told =
    let some : ¬ (to ≤ from) = λ below. told (empty.1 below) in omega (arith, some)

-- the reported error names the file on which the device failed
holds_there : (sounds : List SoundFacts) (failed : List ℕ → Type 0) (fault : SideFault) (reported : ListFault)
    → IsReportedAs sounds fault reported → FailsAt sounds fault failed → HoldsOfDevice reported failed
holds_there sounds failed (side.Source file) (Source name) is fails = subst failed (sym (is fails.0 fails.1)) fails.2
holds_there sounds failed (side.Source file) _ is fails = absurd is
holds_there sounds failed _ reported is fails = absurd fails

module _ (sounds others : List SoundFacts) (failed : List ℕ → Type 0) where
  first_there : (fault : of_sums.CompareFault) (told : CompareFault) → IsReportedOfTwo sounds others fault told
      → comparing.OfFirst (λ of. FailsAt sounds of failed) fault → OfFirst (λ of. HoldsOfDevice of failed) told
  first_there (sums.First fault) (First reported) is fails = holds_there sounds failed fault reported is fails
  first_there (sums.First fault) _ is fails = absurd is
  first_there _ told is fails = absurd fails

  second_there : (fault : of_sums.CompareFault) (told : CompareFault) → IsReportedOfTwo sounds others fault told
      → comparing.OfSecond (λ of. FailsAt others of failed) fault → OfSecond (λ of. HoldsOfDevice of failed) told
  second_there (sums.Second fault) (Second reported) is fails = holds_there others failed fault reported is fails
  second_there (sums.Second fault) _ is fails = absurd is
  second_there _ told is fails = absurd fails

pub returns-in-Err-open_list : goal.returns-in-Err-open_list
returns-in-Err-open_list g c =
    let one = c.in-Ok.ensures in
    let refused = c.in-Err-open_list.ensures in
    record {
      compared = λ honest sure. tt;
      first_refusals = one.refusals;
      second_refusals = refused.refusals;
      range = λ project next spelt next_spelt of. absurd of;
      bad_first_text = λ refusal bad. absurd (no_fault one.spelt bad);
      bad_second_text = λ refusal bad. (refused.bad_text refusal bad).0;
      first_own = tt;
      second_own = refused.own;
      first_in_turn = λ honest. tt;
      second_in_turn = refused.in_turn;
      first_read = read_as (λ quiet. tt) (λ device. device) (λ failed device. absurd device) one.only_reads;
      second_read = refused.only_reads;
    }

pub returns-in-Err-compare_projects : goal.returns-in-Err-compare_projects
returns-in-Err-compare_projects g c =
    let one = c.in-Ok.ensures in
    let two = c.in-Ok-open_list.ensures in
    let refused = c.in-Err-compare_projects.ensures in
    let told = c.of_sums.ensures in
    record {
      compared = λ honest sure. tt;
      first_refusals = λ honest. subst (λ (due : Option Refusal). AnswersFirst {X = Compared} due
          (Err c.of_sums.result)) (sym (one.refusals honest)) told.first_due;
      second_refusals = λ sure. subst (λ (due : Option Refusal). AnswersSecond {X = Compared} due
          (Err c.of_sums.result)) (sym (two.refusals sure)) told.second_due;
      range = λ project next spelt next_spelt. told.range (compared_in c.args.selection.now project.events next.events)
          (rw (← one_value one.spelt spelt, ← one_value two.spelt next_spelt) refused.empty);
      bad_first_text = λ refusal bad. absurd (no_fault one.spelt bad);
      bad_second_text = λ refusal bad. absurd (no_fault two.spelt bad);
      first_own = (told.own c.args.first_list.now).0;
      second_own = (told.own c.args.second_list.now).1;
      first_in_turn = λ honest. (told.in_turn c.args.first_list.now (g.S.Shelf.stored c.args.first_shelf.now)).0;
      second_in_turn = λ sure. (told.in_turn c.args.second_list.now (g.T.Shelf.stored c.args.second_shelf.now)).1;
      first_read = read_behind one.only_reads (read_as (λ quiet e. quiet (told.first_device.0 e)) told.first_device.1
          (λ failed e. first_there _ _ _ _ _ told.reported (failed (told.first_device.1 e))) refused.first_read);
      second_read = read_behind two.only_reads (read_as (λ quiet e. quiet (told.second_device.0 e)) told.second_device.1
          (λ failed e. second_there _ _ _ _ _ told.reported (failed (told.second_device.1 e))) refused.second_read);
    }

pub returns-in-Ok-compare_projects : goal.returns-in-Ok-compare_projects
returns-in-Ok-compare_projects g c =
    let one = c.in-Ok.opened.checked in
    let two = c.in-Ok-open_list.opened.checked in
    let first = c.in-Ok.ensures in
    let second = c.in-Ok-open_list.ensures in
    let told = c.in-Ok-compare_projects.ensures in
    record {
      compared = λ honest sure. record {
        project = one.project;
        binding = one.bound;
        spelled = first.spelled;
        accepted = first.accepted honest;
        other_project = two.project;
        other_binding = two.bound;
        other_spelled = second.spelled;
        other_accepted = second.accepted sure;
        compared = rw (first.only_reads.same, second.only_reads.same) at
            (told.compared (rw first.only_reads.honest_same honest) (rw second.only_reads.honest_same sure));
        counted = told.counted;
        rate = search rules;
        separators = search rules;
        notices = first.notices;
        other_notices = second.notices;
      };
      first_refusals = first.refusals;
      second_refusals = second.refusals;
      range = λ project next spelt next_spelt. rw (← one_value first.spelt spelt, ← one_value second.spelt next_spelt)
          (some_sums told.empty (λ wrong. absurd (cc)));
      bad_first_text = λ refusal bad. absurd (no_fault first.spelt bad);
      bad_second_text = λ refusal bad. absurd (no_fault second.spelt bad);
      first_own = tt;
      second_own = tt;
      first_in_turn = λ honest. tt;
      second_in_turn = λ sure. tt;
      first_read = read_behind first.only_reads told.first_read;
      second_read = read_behind second.only_reads told.second_read;
    }
