-- Comparisons carry over to equal mixes.
use Rattle.std.proofs.Common.{◌≡◌, ◌-◌, ℕ, List, sym, subst, ◌∙◌, Some, None}
use Rattle.std.specs.Prelude.{ℤ, ⊤, Option, Result, Ok, Err, IfOk, OnOk}
use Rattle.sound_terms.specs.Render.{Range}
use Rattle.sound_terms.specs.Sounds.{SoundFacts}
use Rattle.list_terms.specs.Binding.{Binding}
use Rattle.list_terms.specs.Heard.{project_mix}
use Rattle.list_terms.specs.Project.{ListProject}
use Rattle.work_terms.specs.Disk.{Files}
use Rattle.devices.specs.declared.source.Shelf as source
use Rattle.comparison.specs.declared.difference.Difference.{Difference}
use Rattle.comparison.specs.declared.fault.CompareFault.{CompareFault}
use Rattle.comparison.specs.declared.range.Region.{Region}
use Rattle.comparison.specs.Alike.{IsCompared}
use Rattle.comparison.specs.Counted.{AreCounts}
use Rattle.comparison.specs.Matched.{ReadFiles}
use Rattle.comparison.specs.Side.{SideState, heard}
use Rattle.comparison.specs.Sided.{IsSideOf}
use Rattle.comparison.proofs.Counts.{counts_as}

module _ (from to channels : ℕ) (mix mixed as_mix as_mixed : ℕ → ℕ → ℤ)
    (same : (channel time : ℕ) → mix channel time ≡ as_mix channel time)
    (others : (channel time : ℕ) → mixed channel time ≡ as_mixed channel time) where
  compared_as : (found : Option Difference) → IsCompared from to channels mix mixed found
      → IsCompared from to channels as_mix as_mixed found
  compared_as None alike = λ channel time first last begun ends.
      sym (same channel time) ∙ alike channel time first last begun ends ∙ others channel time
  compared_as (Some d) differs = record {
    begun = differs.begun;
    before_end = differs.before_end;
    from_one = differs.from_one;
    to_last = differs.to_last;
    sum = differs.sum ∙ same d.channel d.at;
    other_sum = differs.other_sum ∙ others d.channel d.at;
    differ = λ alike. differs.differ (same d.channel d.at ∙ alike ∙ sym (others d.channel d.at));
    before = λ channel time first last begun ends.
        sym (same channel time) ∙ differs.before channel time first last begun ends ∙ others channel time;
    below = λ lower some less. sym (same lower d.at) ∙ differs.below lower some less ∙ others lower d.at;
  }

  result_as : (result : Result (Option Difference) CompareFault)
      → IfOk result (IsCompared from to channels mix mixed)
      → IfOk result (IsCompared from to channels as_mix as_mixed)
  result_as (Ok found) told = compared_as found told
  result_as (Err fault) told = tt

-- a consequence of a successful call
well_gives : (P Q : Type 0) → (P → Q) → (result : Result ⊤ CompareFault) → OnOk result P → OnOk result Q
well_gives P Q gives (Ok done) said = gives said
well_gives P Q gives (Err fault) said = tt

-- results about two sides hold for the projects they belong to
module _ (files stored : Files) (project other : ListProject) (binding bound : Binding) (region : Region)
    (side next : SideState) (first : IsSideOf project binding region side) (second : IsSideOf other bound region next) where
  pub projects_compared : (result : Result (Option Difference) CompareFault)
      → IfOk result (IsCompared side.work.planned.range.from side.work.planned.range.to side.work.planned.range.channels
      (heard side.work files) (heard next.work stored))
      → IfOk result (IsCompared region.from region.to region.channels (project_mix files project binding)
      (project_mix stored other bound))
  projects_compared result said =
      result_as region.from region.to region.channels (heard side.work files) (heard next.work stored)
      (project_mix files project binding) (project_mix stored other bound) (first.mixes files) (second.mixes stored) result
      (subst (λ (r : Range). IfOk result (IsCompared r.from r.to r.channels (heard side.work files) (heard next.work stored)))
      first.range said)

  pub projects_counted : (counts : List ℕ) (result : Result ⊤ CompareFault)
      → OnOk result (AreCounts (heard side.work files) (heard next.work stored) side.work.planned.range.from
      (side.work.planned.range.to - side.work.planned.range.from) counts)
      → OnOk result (AreCounts (project_mix files project binding) (project_mix stored other bound) region.from
      (region.to - region.from) counts)
  projects_counted counts result said =
      let mix : ℕ → ℕ → ℤ = project_mix files project binding in
      let mixed : ℕ → ℕ → ℤ = project_mix stored other bound in
      well_gives (AreCounts (heard side.work files) (heard next.work stored) region.from (region.to - region.from) counts)
      (AreCounts mix mixed region.from (region.to - region.from) counts)
      (counts_as (heard side.work files) (heard next.work stored) mix mixed region.from (region.to - region.from) counts
      (first.mixes files) (second.mixes stored)) result
      (subst (λ (r : Range). OnOk result
      (AreCounts (heard side.work files) (heard next.work stored) r.from (r.to - r.from) counts)) first.range said)

-- files read for two sides are the files of their projects
pub read_as : {S T X : Type 0} (shelf : source.Ghosts S) (stock : source.Ghosts T) (old new : S) (before after : T)
    (sounds others own others_own : List SoundFacts) (result : Result X CompareFault) → sounds ≡ own → others ≡ others_own
    → ReadFiles shelf stock old new before after sounds others result
    → ReadFiles shelf stock old new before after own others_own result
read_as shelf stock old new before after sounds others own others_own result same same_others read =
    subst (λ (s : List SoundFacts). ReadFiles shelf stock old new before after s others_own result) same
    (subst (λ (s : List SoundFacts). ReadFiles shelf stock old new before after sounds s result) same_others read)
