use Rattle.std.proofs.Common.{ap, length, inl, inr, refl}
use Rattle.std.proofs.Math.Path.{fun_ext}
use Rattle.std.proofs.lemmas.Bool.{cases_lt}
use Rattle.std.proofs.lemmas.List.{get_or_past}
use Rattle.sound_terms.specs.Render.{rendering_of}
use Rattle.list_terms.specs.Accepted.{range_of}
use Rattle.rendering.specs.MakerLaws.{some_job}
use Rattle.rendering.specs.Rendering.{values_of}
use Rattle.rendering.specs.Cut.{no_stretch}
use Rattle.rendering.proofs.Jobs.{are_apart, are_parts}
use Rattle.rendering.proofs.work.Rendering.plan.Goals as goal

-- the rendering that is planned for a project is the one that was asked for
pub returns-clause-planned : goal.returns-clause-planned
returns-clause-planned c =
    let is = c.in_ok-rendering.ensures.prepared in
    let whole = c.in_ok-rendering.ensures.whole in
    let work = c.in_ok-rendering.rendering in
    let checked = c.args.checked.now in
    record {
      range = is.range;
      cut = whole.cut;
      even = is.even;
      grouped = is.grouped;
      some = some_job work whole;
      fresh = λ k. elim (cases_lt k (length work.stretches)) [
        | inl below ↦ (is.even k below).fresh
        | inr past ↦ rw (get_or_past work.stretches k no_stretch past) refl
      ];
      parts = λ sources. are_parts work sources whole;
      apart = λ sources. are_apart work sources whole;
      heard_as = λ sources channel time. rw is.sounds (is.mixes sources channel time);
      whole = λ sources. rw is.range (ap (rendering_of (range_of checked.project (values_of c.args.options.now)))
          (fun_ext (λ channel. fun_ext (λ time. rw is.sounds (is.mixes sources channel time)))));
      reads_back = is.reads_back;
    }
