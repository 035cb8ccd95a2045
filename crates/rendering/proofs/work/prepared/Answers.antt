use Rattle.std.proofs.Common.{ap, ◌∙◌}
use Rattle.sound_terms.specs.Render.{render_info}
use Rattle.list_terms.specs.Heard.{sounds_of}
use Rattle.rendering.proofs.work.prepared.Goals as goal

pub returns-clause-prepared : goal.returns-clause-prepared
returns-clause-prepared c =
    let made = c.in_ok-blocks.ensures.made in
    let chosen = rw c.project.ensures.lent at c.span_of-span.ensures.range in
    let fits = c.reads_back.ensures.short c.info_of-info.ensures.short in
    rw made (record {
      even = rw made at c.in_ok-stretches.ensures.even;
      grouped = rw made at c.in_ok-stretches.ensures.grouped;
      range = c.in_ok-plan.ensures.range ∙ chosen;
      sounds = c.sounds.ensures.sounds ∙ ap sounds_of c.bound.ensures;
      mixes = c.in_ok-plan.ensures.mixes;
      reads_back = λ mix.
          c.reads_back.ensures.rendered _ mix fits (c.info_of-info.ensures.info ∙ ap render_info chosen);
    })
