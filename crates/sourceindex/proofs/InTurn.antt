-- Sources that are bound one after another.
use Rattle.std.proofs.Common.{◌≡◌, ◌∙◌, Bool, true, false, List, [], ◌∷◌, ◌++◌, Result, Ok, Err, MatchBool, refl, ap}
use Rattle.sound_terms.specs.declared.Event.{Event}
use Rattle.work_terms.specs.Disk.{Files}
use Rattle.work_terms.specs.Refusals.{Refusal, is_excused}
use Rattle.list_terms.specs.Project.{ListProject, Source}
use Rattle.list_terms.specs.Steps.{◌>>=◌}
use Rattle.list_terms.specs.Binding.{Binding, nothing_bound}
use Rattle.list_terms.specs.Bound.{binding_of, with_source, with_sources}

with_sources-append : (files : Files) (events : List Event) (binding : Binding) (sources more : List Source)
    → with_sources files events binding (sources ++ more)
    ≡ with_sources files events binding sources >>= (λ next. with_sources files events next more)
with_sources-append files events binding [] more = refl
with_sources-append files events binding (source ∷ sources) more =
    by_first (λ next. with_sources-append files events next sources more) (with_source files events binding source)
    refl where
      by_first : ((next : Binding) → with_sources files events next (sources ++ more)
          ≡ with_sources files events next sources >>= (λ n. with_sources files events n more))
          → (first : Result Binding Refusal) → with_source files events binding source ≡ first
          → with_sources files events binding (source ∷ (sources ++ more))
          ≡ with_sources files events binding (source ∷ sources) >>= (λ next. with_sources files events next more)
      by_first later (Ok next) e = rw e (later next)
      by_first later (Err refusal) e = rw e refl

-- One more source.
pub one_more : (files : Files) (events : List Event) (before next : Binding) (sources : List Source) (source : Source)
    → with_sources files events nothing_bound sources ≡ Ok before → with_source files events before source ≡ Ok next
    → with_sources files events nothing_bound (sources ++ source ∷ []) ≡ Ok next
one_more files events before next sources source so_far step =
    with_sources-append files events nothing_bound sources (source ∷ []) ∙ rw (so_far, step) refl

-- The first source that is refused.
pub refused_at : (project : ListProject) (files : Files) (before : Binding) (sources more : List Source)
    (source : Source) (refusal : Refusal)
    → project.sources ≡ sources ++ source ∷ more
    → with_sources files project.events nothing_bound sources ≡ Ok before
    → MatchBool (is_excused refusal.number) (Unit {0}) (with_source files project.events before source ≡ Err refusal)
    → MatchBool (is_excused refusal.number) (Unit {0}) (binding_of project files ≡ Err refusal)
refused_at project files before sources more source refusal cut so_far = by_kind (is_excused refusal.number) where
  by_kind : (b : Bool) → MatchBool b (Unit {0}) (with_source files project.events before source ≡ Err refusal)
      → MatchBool b (Unit {0}) (binding_of project files ≡ Err refusal)
  by_kind true told = tt
  by_kind false told =
      ap (with_sources files project.events nothing_bound) cut
      ∙ with_sources-append files project.events nothing_bound sources (source ∷ more) ∙ rw (so_far, told) refl
