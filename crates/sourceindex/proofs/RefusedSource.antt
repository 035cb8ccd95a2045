-- Facts about a source of a project that is refused.
use Rattle.std.proofs.Common.{◌≡◌, ◌∙◌, ◌⊎◌, ◌+◌, ◌<◌, ◌∷◌, ◌++◌, List, ℕ, MatchBool, Ok, Err, Some, add-one, ap, drop, drop-cons, get_or, length, refl, subst, sym, take, take-append-drop, true}
use Rattle.std.specs.List.{list_all, slice_get}
use Rattle.std.proofs.lemmas.Option.{slice_get_read}
use Rattle.work_terms.specs.Disk.{Files}
use Rattle.work_terms.specs.Refusals.{is_excused}
use Rattle.list_terms.specs.Project.{ListProject, Source}
use Rattle.list_terms.specs.WholeProject.{is_source}
use Rattle.list_terms.specs.Binding.{Binding, is_used, nothing_bound}
use Rattle.list_terms.specs.Bound.{binding_of, with_source, with_sources}
use Rattle.riff.specs.declared.fault.MediaFault.TheVariants as media
use Rattle.sourceindex.specs.declared.fault.BindFault.{BindFault}
use Rattle.sourceindex.specs.declared.fault.NamedFault.{NamedFault}
use Rattle.sourceindex.specs.declared.fault.SourceFault.TheVariants.{Media}
use Rattle.sourceindex.specs.Fault.{at_index, refusal_of, refusal_of_source}
use Rattle.sourceindex.specs.Own.{ComesFirst, IsOfProject}
use Rattle.sourceindex.specs.Taken.{IsNamedAs}
use Rattle.sourceindex.proofs.Faults.{due_refusal, first_index, own_index, source_at}
use Rattle.sourceindex.proofs.InTurn.{refused_at}

module _ (project : ListProject) (sources : List Source) (place : ℕ) (source : Source) (named : NamedFault)
    (fault : BindFault) (listed : sources ≡ project.sources) (read : source ≡ get_or sources place source)
    (below : place < length sources) (is : fault ≡ at_index source.number named) (name : IsNamedAs source named) where
  there : slice_get sources place ≡ Some source
  there = slice_get_read sources (length sources) place source refl below read

  -- The project is refused because of it.
  pub refused_there : (files : Files) (before : Binding)
      → with_sources files project.events nothing_bound (take place sources) ≡ Ok before
      → MatchBool (is_excused (refusal_of_source source named.fault).number) (Unit {0})
      (with_source files project.events before source ≡ Err (refusal_of_source source named.fault))
      → MatchBool (is_excused (refusal_of fault).number) (Unit {0}) (binding_of project files ≡ Err (refusal_of fault))
  refused_there files before so_far told =
      let here : drop place sources ≡ source ∷ drop (place + 1) sources =
      rw (add-one, read) (drop-cons sources place source below) in
      let cut : project.sources ≡ take place sources ++ source ∷ drop (place + 1) sources =
      sym listed ∙ sym (take-append-drop place sources) ∙ ap (λ rest. take place sources ++ rest) here in
      subst (λ (f : BindFault). MatchBool (is_excused (refusal_of f).number) (Unit {0})
      (binding_of project files ≡ Err (refusal_of f))) (sym is)
      (due_refusal source named (binding_of project files) name
      (refused_at project files before (take place sources) (drop (place + 1) sources) source
      (refusal_of_source source named.fault) cut so_far told))

  module _ (whole : list_all is_source sources ≡ true) where
    -- The source belongs to the project.
    pub owned_there : (named.fault ≡ Media media.Memory) ⊎ (is_used project.events source.number ≡ true)
        → IsOfProject project fault
    owned_there used =
        subst (IsOfProject project) (sym is) (own_index project sources place source named listed whole there name used)

    -- No source before it is refused.
    pub first_there : (files : Files) (before : Binding)
        → with_sources files project.events nothing_bound (take place sources) ≡ Ok before → ComesFirst project files fault
    first_there files before so_far =
        subst (ComesFirst project files) (sym is)
        (first_index project files place source named before
        (source_at project sources place source listed whole there) (rw listed at so_far))
